-- The relocation items that count after a call: those of new segments come anew, those of others stay.
use Rattle.std.proofs.Common.{◌≡◌, ◌≢◌, ◌⊎◌, inl, inr, ℕ, ◌≤◌, Bool, true, false, not, ◌||◌, ◌==◌, if◌then◌else◌, List, [], ◌∷◌, ◌++◌, map, filter, flat_map, length, refl, sym, ap, ◌∙◌, subst}
use Rattle.std.specs.List.{AllByRecursion as Each}
use Rattle.std.proofs.lemmas.Bool.{false≢true, eqb-true, eq-eqb, ne_eqb}
use Rattle.std.proofs.lemmas.Bool.Decides.{eqb_tells}
use Rattle.std.proofs.lemmas.List.Elements.{filter-append}
use Rattle.load_recs.specs.declared.items.RldItem.{RldItem}
use Rattle.linking_model.specs.Tree.{is_in}
use Rattle.linking_model.specs.Places.{Laid}
use Rattle.linking_model.specs.Linked.{block}
use Rattle.member_model.specs.Facts.{Field}
use Rattle.member_model.specs.Fetched.{Fetched}
use Rattle.member_model.specs.Parts.{parts_in}
use Rattle.member_model.specs.Calling.{State, segment_facts, missing, brought_in, all_brought_in, call_into, call_down_to}
use Rattle.member_model.specs.Written.{member_written}
use Rattle.pds_lib.specs.Stow.{main_entry}
use Rattle.member_laws.specs.Gathered.{items_of, fields_in}
use Rattle.member_laws.proofs.LoadingLists.{Among, each_append, each_map, each_weaker, each_filter, among_map}
use Rattle.member_laws.proofs.LoadingSegment.{each_among}
use Rattle.run_laws.specs.Bringing.{CallsBringFields}
use Rattle.run_laws.specs.EntryTables.{member_at}
use Rattle.run_laws.specs.Fields.{IsWritten, HoldsFields}
use Rattle.run_laws.proofs.BroughtSegments.{brought_by, missing_are, each_brought, new_or_stays}
use Rattle.run_laws.proofs.FetchedMembers.{IsFetched, fetched_in_block}
use Rattle.run_laws.proofs.ReadAlone.{reads_alone}

-- ---- the items of one segment

abbrev pub is_of : ℕ → Field → Bool
is_of s f = f.segment == s

abbrev pub in_segment : ℕ → RldItem → Field
in_segment r x = record { segment = r; item = x }

pub all_of : (r s : ℕ) (items : List RldItem) → (r == s) ≡ true → filter (is_of s) (map (in_segment r) items) ≡ map (in_segment r) items
all_of r s [] is = refl
all_of r s (x ∷ items) is =
    ap (λ b. if b then in_segment r x ∷ filter (is_of s) (map (in_segment r) items) else filter (is_of s) (map (in_segment r) items)) is
    ∙ ap (λ l. in_segment r x ∷ l) (all_of r s items is)

none_of : (r s : ℕ) (items : List RldItem) → (r == s) ≡ false → filter (is_of s) (map (in_segment r) items) ≡ []
none_of r s [] is = refl
none_of r s (x ∷ items) is =
    ap (λ b. if b then in_segment r x ∷ filter (is_of s) (map (in_segment r) items) else filter (is_of s) (map (in_segment r) items)) is
    ∙ none_of r s items is

-- of what is left without the items of segment r
left_of : (r s : ℕ) (fields : List Field) → r ≢ s → filter (is_of s) (filter (λ f. not (f.segment == r)) fields) ≡ filter (is_of s) fields
left_of r s [] differ = refl
left_of r s (f ∷ fields) differ = by_tests (f.segment == r) (f.segment == s) refl refl (left_of r s fields differ)
  where
    by_tests : (a b : Bool) → (f.segment == r) ≡ a → (f.segment == s) ≡ b
        → filter (is_of s) (filter (λ f. not (f.segment == r)) fields) ≡ filter (is_of s) fields
        → filter (is_of s) (if not a then f ∷ filter (λ f. not (f.segment == r)) fields else filter (λ f. not (f.segment == r)) fields)
        ≡ (if b then f ∷ filter (is_of s) fields else filter (is_of s) fields)
    by_tests false b p q rest =
        ap (λ c. if c then f ∷ filter (is_of s) (filter (λ f. not (f.segment == r)) fields) else filter (is_of s) (filter (λ f. not (f.segment == r)) fields)) q
        ∙ ap (λ l. if b then f ∷ l else l) rest
    by_tests true false p q rest = rest
    by_tests true true p q rest = absurd (differ (sym (eqb-true f.segment r p) ∙ eqb-true f.segment s q))

gone : (s : ℕ) (fields : List Field) → filter (is_of s) (filter (λ f. not (f.segment == s)) fields) ≡ []
gone s [] = refl
gone s (f ∷ fields) = by_test (f.segment == s) refl (gone s fields)
  where
    by_test : (a : Bool) → (f.segment == s) ≡ a → filter (is_of s) (filter (λ f. not (f.segment == s)) fields) ≡ []
        → filter (is_of s) (if not a then f ∷ filter (λ f. not (f.segment == s)) fields else filter (λ f. not (f.segment == s)) fields) ≡ []
    by_test false is rest =
        ap (λ c. if c then f ∷ filter (is_of s) (filter (λ f. not (f.segment == s)) fields) else filter (is_of s) (filter (λ f. not (f.segment == s)) fields)) is
        ∙ rest
    by_test true is rest = rest

-- ---- one segment is brought in

-- the items after segment r was brought in
abbrev with_items : Laid → ℕ → ℕ → List Field → List Field
with_items P n r fields = filter (λ f. not (f.segment == r)) fields ++ fields_in P n r

pub written_in : (P : Laid) (n r : ℕ) → 1 ≤ r → r ≤ length P.tree → Each (IsWritten P n) (fields_in P n r)
written_in P n r low high =
    each_map (IsWritten P n) (in_segment r) (flat_map (items_of P n) (parts_in P r))
    (each_weaker (λ x. Among x (flat_map (items_of P n) (parts_in P r))) _ (flat_map (items_of P n) (parts_in P r))
    (λ x among. (low, high, among_map (in_segment r) x (flat_map (items_of P n) (parts_in P r)) among))
    (each_among (flat_map (items_of P n) (parts_in P r))))

written_with : (P : Laid) (n r : ℕ) (fields : List Field) → 1 ≤ r → r ≤ length P.tree → Each (IsWritten P n) fields → Each (IsWritten P n) (with_items P n r fields)
written_with P n r fields low high written =
    each_append (IsWritten P n) (filter (λ f. not (f.segment == r)) fields) (fields_in P n r)
    (each_filter (IsWritten P n) (λ f. not (f.segment == r)) fields (each_weaker (IsWritten P n) _ fields (λ f is kept. is) written))
    (written_in P n r low high)

own_with : (P : Laid) (n r : ℕ) (fields : List Field) → filter (is_of r) (with_items P n r fields) ≡ fields_in P n r
own_with P n r fields =
    filter-append (is_of r) (filter (λ f. not (f.segment == r)) fields) (fields_in P n r)
    ∙ ap (λ l. l ++ filter (is_of r) (fields_in P n r)) (gone r fields)
    ∙ all_of r r (flat_map (items_of P n) (parts_in P r)) (eq-eqb r r refl)

other_with : (P : Laid) (n r s : ℕ) (fields : List Field) → r ≢ s → filter (is_of s) (with_items P n r fields) ≡ filter (is_of s) fields
other_with P n r s fields differ =
    filter-append (is_of s) (filter (λ f. not (f.segment == r)) fields) (fields_in P n r)
    ∙ ap (λ l. filter (is_of s) (filter (λ f. not (f.segment == r)) fields) ++ l) (none_of r s (flat_map (items_of P n) (parts_in P r)) (ne_eqb r s differ))
    ∙ nothing_behind (filter (is_of s) (filter (λ f. not (f.segment == r)) fields))
    ∙ left_of r s fields differ
  where
    nothing_behind : (l : List Field) → l ++ [] ≡ l
    nothing_behind [] = refl
    nothing_behind (y ∷ l) = ap (λ rest. y ∷ rest) (nothing_behind l)

-- ---- several segments are brought in

-- read alone, the segment has its relocation items
pub record ReadsItems (P : Laid) (n : ℕ) (m : Fetched) (r : ℕ) : Type 0 where
  pub low : 1 ≤ r
  pub high : r ≤ length P.tree
  pub fields : (segment_facts m r).fields ≡ fields_in P n r

pub items_after : (P : Laid) (n s : ℕ) (m : Fetched) (new : List ℕ) (S : State) → Each (ReadsItems P n m) new → Each (IsWritten P n) S.fields
    → (is_in s new ≡ true) ⊎ (filter (is_of s) S.fields ≡ fields_in P n s) → HoldsFields P n s (all_brought_in m new S).fields
items_after P n s m [] S read written (inl there) = absurd (false≢true there)
items_after P n s m [] S read written (inr own) = record { written = written; own = own }
items_after P n s m (r ∷ new) S read written why =
    items_after P n s m new (brought_in m S r) read.1
    (subst (Each (IsWritten P n)) (sym now) (written_with P n r S.fields read.0.low read.0.high written)) (later why)
  where
    now : (brought_in m S r).fields ≡ with_items P n r S.fields
    now = ap (λ l. filter (λ f. not (f.segment == r)) S.fields ++ l) read.0.fields

    later : (is_in s (r ∷ new) ≡ true) ⊎ (filter (is_of s) S.fields ≡ fields_in P n s)
        → (is_in s new ≡ true) ⊎ (filter (is_of s) (brought_in m S r).fields ≡ fields_in P n s)
    later why =
        elim (eqb_tells r s) as (λ _. (is_in s new ≡ true) ⊎ (filter (is_of s) (brought_in m S r).fields ≡ fields_in P n s)) [
          | inl w ↦ inr (ap (filter (is_of s)) now ∙ subst (λ k. filter (is_of k) (with_items P n r S.fields) ≡ fields_in P n k) w.1 (own_with P n r S.fields))
          | inr w ↦ by_why w.0 w.1 why
        ]
      where
        by_why : (r == s) ≡ false → r ≢ s → (is_in s (r ∷ new) ≡ true) ⊎ (filter (is_of s) S.fields ≡ fields_in P n s)
            → (is_in s new ≡ true) ⊎ (filter (is_of s) (brought_in m S r).fields ≡ fields_in P n s)
        by_why apart differ (inl there) = inl (sym (ap (λ b. b || is_in s new) apart) ∙ there)
        by_why apart differ (inr own) = inr (ap (filter (is_of s)) now ∙ other_with P n r s S.fields differ ∙ own)

-- ---- a call

call_fields : (m : Fetched) (S : State) (t : ℕ) → (call_into m S t).fields ≡ (all_brought_in m (missing m S.storage t) S).fields
unfolding call_down_to
call_fields m S t = refl

pub calls_bring_fields : CallsBringFields
calls_bring_fields P scatter n who at t s resident S link format over few are reads low high held there =
    subst (HoldsFields P n s) (sym (call_fields m S t ∙ ap (λ new. (all_brought_in m new S).fields) (missing_are P scatter n (block P at) m resident S.storage t link is over reads)))
    (items_after P n s m (brought_by P.tree resident t) S
    (each_brought (ReadsItems P n m) P.tree resident t
    (λ r first last. record {
      low = first;
      high = last;
      fields = (reads_alone P scatter n r (main_entry (member_written P scatter n who)) at link format (record { attr = refl; length = refl }) over few first last).fields;
    }))
    (held 1 are.root).written (by_cases (new_or_stays P.tree resident t s there)))
  where
    m : Fetched
    m = member_at P scatter n who at

    is : IsFetched P scatter n (block P at) m
    is = fetched_in_block P scatter n (main_entry (member_written P scatter n who)) at link format (record { attr = refl; length = refl })

    by_cases : (is_in s (brought_by P.tree resident t) ≡ true) ⊎ (is_in s resident ≡ true)
        → (is_in s (brought_by P.tree resident t) ≡ true) ⊎ (filter (is_of s) S.fields ≡ fields_in P n s)
    by_cases (inl new) = inl new
    by_cases (inr stays) = inr (held s stays).own
