use Rattle.std.proofs.Common.{◌≡◌, ℕ, ◌∙◌, ap, sym, List, ◌∷◌, ◌++◌, map, subst, length, Ok, Err, [], true}
use Rattle.std.proofs.lemmas.List.{length-map}
use Rattle.linking_model.specs.Kept.{Read}
use Rattle.esd_index.specs.Contents.{Contents, now_of, marked_of}
use Rattle.esd_index.specs.Modules.{noted_module}
use Rattle.esd_lists.specs.declared.reading.Reading.{Reading}
use Rattle.esd_lists.specs.Indexed.{content_of}
use Rattle.esd_lists.specs.Held.{as_read, AreMarked}
use Rattle.esd_merge.specs.Added.{AddAnswer, IsMerged, with_module}
use Rattle.esd_merge.specs.Entered.{Enters}
use Rattle.esd_merge.specs.Calls.{changed_from, changed_place}
use Rattle.esd_merge.proofs.Joining.{refused, accepted, IsAdded, joined, next_marked, next_merged}
use Rattle.esd_merge.proofs.merged.Merged.put.Goals.{in-Ok-push, in-Err-push}
use Rattle.esd_merge.proofs.merged.Merged.put.Goals as goal

pub returns-in-Err-clause-added : goal.returns-in-Err-clause-added
returns-in-Err-clause-added c =
    let number : c.len.result ≡ length (map as_read c.self.inside.reads.items) = c.len.ensures ∙ c.self.inside.reads.ok.0 ∙ sym (length-map c.self.inside.reads.items as_read) in
    let enters : Enters c.args.m (now_of c.self.inside.index) (noted_module (length (map as_read c.self.inside.reads.items)) c.args.segment c.args.m (now_of c.self.inside.index)) (Err c.in-Err.fault) (now_of c.enter.new.index) =
    subst (λ (n : ℕ). Enters c.args.m (now_of c.self.inside.index) (noted_module n c.args.segment c.args.m (now_of c.self.inside.index)) (Err c.in-Err.fault) (now_of c.enter.new.index)) number c.in-Err.ensures.enters in
    let answer : AddAnswer {A = ℕ} (map as_read c.self.inside.reads.items) c.args.m c.args.segment (Err c.in-Err.fault) (map as_read c.self.inside.reads.items) =
    refused ℕ (map as_read c.self.inside.reads.items) c.args.m c.args.segment (now_of c.self.inside.index) (now_of c.enter.new.index) c.in-Err.fault c.self.invariant.merged.faultless c.self.invariant.indexed enters in
    subst (λ (rs : List Read). AddAnswer {A = ℕ} rs c.args.m c.args.segment (Err c.in-Err.fault) (map as_read c.self.inside.reads.items)) c.self.view_is answer

pub invariant_of-self-in-Ok-push : goal.invariant_of-self-in-Ok-push
invariant_of-self-in-Ok-push c =
    let xs : List Reading = c.self.inside.reads.items in
    let x : Reading = record { read = c.args.m; segment = c.args.segment; kept = c.in-Ok.kept } in
    let number : c.len.result ≡ length (map as_read xs) = c.len.ensures ∙ c.self.inside.reads.ok.0 ∙ sym (length-map xs as_read) in
    let enters : Enters c.args.m (now_of c.self.inside.index) (noted_module (length (map as_read xs)) c.args.segment c.args.m (now_of c.self.inside.index)) (Ok c.in-Ok.kept) (now_of c.enter.new.index) =
    subst (λ (n : ℕ). Enters c.args.m (now_of c.self.inside.index) (noted_module n c.args.segment c.args.m (now_of c.self.inside.index)) (Ok c.in-Ok.kept) (now_of c.enter.new.index)) number c.in-Ok.ensures.enters in
    let added : IsAdded (map as_read xs) c.args.m c.args.segment c.in-Ok.kept (now_of c.enter.new.index) =
    accepted (map as_read xs) c.args.m c.args.segment (now_of c.self.inside.index) (now_of c.enter.new.index) c.in-Ok.kept c.self.invariant.merged.faultless c.self.invariant.indexed enters in
    let items : c.push.new.self.items ≡ xs ++ x ∷ [] = c.in-Ok-push.ensures.items in
    let view : map as_read c.push.new.self.items ≡ with_module (map as_read xs) c.args.m c.args.segment = ap (map as_read) items ∙ joined xs x in
    let indexed : now_of c.enter.new.index ≡ content_of (map as_read c.push.new.self.items) = added.indexed ∙ sym (ap content_of view) in
    record {
      merged = subst IsMerged (sym view) (next_merged (map as_read xs) c.args.m c.args.segment c.self.invariant.merged c.requires.sound c.requires.numbered added.faultless);
      indexed = c.mark.ensures.now ∙ indexed;
      saved = c.mark.ensures.marked ∙ indexed;
      marked = subst (λ (ys : List Reading). AreMarked (map as_read ys) ys) (sym items) (subst (λ (rs : List Read). AreMarked rs (xs ++ x ∷ [])) (sym (joined xs x)) (next_marked xs x c.self.invariant.marked added.flags));
    }

pub returns-clause-added : goal.returns-clause-added
returns-clause-added c =
    let xs : List Reading = c.self.inside.reads.items in
    let x : Reading = record { read = c.args.m; segment = c.args.segment; kept = c.in-Ok.kept } in
    let number : c.len.result ≡ length (map as_read xs) = c.len.ensures ∙ c.self.inside.reads.ok.0 ∙ sym (length-map xs as_read) in
    let enters : Enters c.args.m (now_of c.self.inside.index) (noted_module (length (map as_read xs)) c.args.segment c.args.m (now_of c.self.inside.index)) (Ok c.in-Ok.kept) (now_of c.enter.new.index) =
    subst (λ (n : ℕ). Enters c.args.m (now_of c.self.inside.index) (noted_module n c.args.segment c.args.m (now_of c.self.inside.index)) (Ok c.in-Ok.kept) (now_of c.enter.new.index)) number c.in-Ok.ensures.enters in
    let added : IsAdded (map as_read xs) c.args.m c.args.segment c.in-Ok.kept (now_of c.enter.new.index) =
    accepted (map as_read xs) c.args.m c.args.segment (now_of c.self.inside.index) (now_of c.enter.new.index) c.in-Ok.kept c.self.invariant.merged.faultless c.self.invariant.indexed enters in
    let view : map as_read xs ≡ c.args.self.now = c.self.view_is in
    elim c.match-push.branch [
      | in-Ok-push w ↦
          let items : c.push.new.self.items ≡ xs ++ x ∷ [] = w.in-Ok-push.ensures.items in
          let ok : AddAnswer {A = ℕ} (map as_read xs) c.args.m c.args.segment (Ok c.changed_if-changed.result) (map as_read c.push.new.self.items) = (added.faultless, ap (map as_read) items ∙ joined xs x) in
          let here : AddAnswer {A = ℕ} c.args.self.now c.args.m c.args.segment (Ok c.changed_if-changed.result) (map as_read c.push.new.self.items) = subst (λ (rs : List Read). AddAnswer {A = ℕ} rs c.args.m c.args.segment (Ok c.changed_if-changed.result) (map as_read c.push.new.self.items)) view ok in
          rw (w.result-is, w.self-is) here
      | in-Err-push w ↦
          let items : c.push.new.self.items ≡ xs = w.in-Err-push.ensures.items in
          let here : map as_read c.push.new.self.items ≡ c.args.self.now = ap (map as_read) items ∙ view in
          rw (w.result-is, w.self-is) here
    ]

pub returns-clause-changed : goal.returns-clause-changed
returns-clause-changed c =
    let xs : List Reading = c.self.inside.reads.items in
    let x : Reading = record { read = c.args.m; segment = c.args.segment; kept = c.in-Ok.kept } in
    let number : c.len.result ≡ length (map as_read xs) = c.len.ensures ∙ c.self.inside.reads.ok.0 ∙ sym (length-map xs as_read) in
    let enters : Enters c.args.m (now_of c.self.inside.index) (noted_module (length (map as_read xs)) c.args.segment c.args.m (now_of c.self.inside.index)) (Ok c.in-Ok.kept) (now_of c.enter.new.index) =
    subst (λ (n : ℕ). Enters c.args.m (now_of c.self.inside.index) (noted_module n c.args.segment c.args.m (now_of c.self.inside.index)) (Ok c.in-Ok.kept) (now_of c.enter.new.index)) number c.in-Ok.ensures.enters in
    let added : IsAdded (map as_read xs) c.args.m c.args.segment c.in-Ok.kept (now_of c.enter.new.index) =
    accepted (map as_read xs) c.args.m c.args.segment (now_of c.self.inside.index) (now_of c.enter.new.index) c.in-Ok.kept c.self.invariant.merged.faultless c.self.invariant.indexed enters in
    let view : map as_read xs ≡ c.args.self.now = c.self.view_is in
    elim c.match-push.branch [
      | in-Ok-push w ↦
          let items : c.push.new.self.items ≡ xs ++ x ∷ [] = w.in-Ok-push.ensures.items in
          let new : map as_read c.push.new.self.items ≡ with_module (map as_read xs) c.args.m c.args.segment = ap (map as_read) items ∙ joined xs x in
          let before : marked_of c.enter.new.index ≡ content_of c.args.self.now = c.enter.ensures.marked ∙ c.self.invariant.saved ∙ ap content_of view in
          let after : now_of c.enter.new.index ≡ content_of (map as_read c.push.new.self.items) = added.indexed ∙ sym (ap content_of new) in
          let place : changed_from (marked_of c.enter.new.index) (now_of c.enter.new.index) ≡ changed_place c.args.self.now (map as_read c.push.new.self.items) = ap (changed_from (marked_of c.enter.new.index)) after ∙ ap (λ (d : Contents). changed_from d (content_of (map as_read c.push.new.self.items))) before in
          let here : c.args.asked ≡ true → c.changed_if-changed.result ≡ changed_place c.args.self.now (map as_read c.push.new.self.items) = λ asked. c.changed_if-changed.ensures asked ∙ place in
          rw (w.result-is, w.self-is) here
      | in-Err-push w ↦ rw (w.result-is) tt
    ]
