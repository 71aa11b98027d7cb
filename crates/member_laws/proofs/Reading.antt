-- Records as they are written: what a reader has after each, and whether a segment goes on.
use Rattle.std.proofs.Common.{◌≡◌, ◌≢◌, ℕ, Bool, true, false, ◌==◌, List, [], ◌∷◌, ◌++◌, map, fold, Option, Some, None, Ok, refl, sym, ap, subst, ◌∙◌}
use Rattle.std.proofs.lemmas.Bool.{eq-eqb, ne_eqb, cond-true, cond-false}
use Rattle.std.proofs.lemmas.List.{append_assoc, map-append}
use Rattle.std.proofs.lemmas.List.Sums.{fold-append}
use Rattle.load_recs.specs.Records.{Record, TextRecord, IsRecord, rec_bytes}
use Rattle.load_recs.specs.Reading.{contents, own_fault, unless, reading, expected}
use Rattle.load_recs.specs.declared.records.Expect.TheVariants.{Head}
use Rattle.load_recs.specs.declared.records.RecFault.{RecFault}
use Rattle.load_recs.specs.declared.records.TextHead.{TextHead}
use Rattle.load_recs.proofs.RecordsAgain.{written_again}
use Rattle.member_model.specs.Facts.{Facts, seen, walked, with_contents, with_record}

-- ---- one record

-- the bytes of a record are read as it, and have no fault of their own
pub record IsRead (r : Record) : Type 0 where
  pub held : contents (rec_bytes r) ≡ r
  pub fine : own_fault (rec_bytes r) ≡ None

unless-ok : (fault : Option RecFault) (held r : Record) → unless fault held ≡ Ok r → (held ≡ r) × (fault ≡ None)
unless-ok None held r e = (cc, refl)
unless-ok (Some f) held r e = absurd cc

pub is_read : (r : Record) → IsRecord r → expected r ≡ Head → IsRead r
is_read r is head =
    let both = unless-ok (own_fault (rec_bytes r)) (contents (rec_bytes r)) r (subst (λ x. reading x (rec_bytes r) ≡ Ok r) head (written_again r is)) in
    record { held = both.0; fine = both.1 }

-- the facts with those of one more record, as it is written
unfoldable pub saw : Facts → Record → Facts
saw F r = seen F (rec_bytes r)

pub saw-record : (F : Facts) (r : Record) → IsRecord r → expected r ≡ Head → F.due ≡ None → saw F r ≡ with_contents F r
unfolding saw seen
saw-record F r is head none = ap (λ d. with_record F d (rec_bytes r)) none ∙ ap (with_contents F) (is_read r is head).held

pub saw-text : (F : Facts) (text : TextHead) (bytes : List ℕ) → F.due ≡ Some text → saw F (TextRecord bytes) ≡ with_record F (Some text) bytes
unfolding saw seen
saw-text F text bytes due = ap (λ d. with_record F d bytes) due

-- ---- records of one segment

-- these records lead from F to G, and each of them comes while segment s goes on
pub record Walks (s : ℕ) (F : Facts) (rs : List Record) (G : Facts) : Type 0 where
  pub whole : fold saw F rs ≡ G
  pub part : (bytes : List (List ℕ)) → walked s F (map rec_bytes rs ++ bytes) ≡ walked s G bytes

pub walks-none : (s : ℕ) (F : Facts) → Walks s F [] F
walks-none s F = record { whole = refl; part = λ bytes. refl }

pub walks-one : (s : ℕ) (F : Facts) (r : Record) (G : Facts) → F.segment ≡ s → saw F r ≡ G → Walks s F (r ∷ []) G
unfolding walked saw
walks-one s F r G here e =
    record {
      whole = e;
      part = λ bytes. cond-true (F.segment == s) (walked s (seen F (rec_bytes r)) bytes) F (eq-eqb F.segment s here) ∙ ap (λ X. walked s X bytes) e;
    }

pub walks-append : (s : ℕ) (F : Facts) (rs : List Record) (G : Facts) (qs : List Record) (H : Facts) → Walks s F rs G → Walks s G qs H → Walks s F (rs ++ qs) H
walks-append s F rs G qs H first then =
    record {
      whole = fold-append saw F rs qs ∙ ap (λ X. fold saw X qs) first.whole ∙ then.whole;
      part = λ bytes.
          ap (λ l. walked s F (l ++ bytes)) (map-append rec_bytes rs qs)
          ∙ ap (λ l. walked s F l) (append_assoc (map rec_bytes rs) (map rec_bytes qs) bytes)
          ∙ first.part (map rec_bytes qs ++ bytes) ∙ then.part bytes;
    }

pub walks-cons : (s : ℕ) (F : Facts) (r : Record) (G : Facts) (qs : List Record) (H : Facts) → F.segment ≡ s → saw F r ≡ G → Walks s G qs H → Walks s F (r ∷ qs) H
walks-cons s F r G qs H here e then = walks-append s F (r ∷ []) G qs H (walks-one s F r G here e) then

pub walks-to : (s : ℕ) (F : Facts) (rs : List Record) (G H : Facts) → Walks s F rs G → G ≡ H → Walks s F rs H
walks-to s F rs G H walks e = subst (λ X. Walks s F rs X) e walks

pub walks-as : (s : ℕ) (F : Facts) (rs qs : List Record) (G : Facts) → rs ≡ qs → Walks s F qs G → Walks s F rs G
walks-as s F rs qs G e walks = subst (λ l. Walks s F l G) (sym e) walks

-- no further record of segment s is read once it has ended
pub walks-stop : (s : ℕ) (G : Facts) (bytes : List (List ℕ)) → G.segment ≢ s → walked s G bytes ≡ G
unfolding walked
walks-stop s G [] other = refl
walks-stop s G (b ∷ bs) other = cond-false (G.segment == s) (walked s (seen G b) bs) G (ne_eqb G.segment s other)

-- the facts of records, as they are written
pub fold-seen : (F : Facts) (rs : List Record) → fold seen F (map rec_bytes rs) ≡ fold saw F rs
unfolding saw
fold-seen F [] = refl
fold-seen F (r ∷ rs) = fold-seen (seen F (rec_bytes r)) rs
