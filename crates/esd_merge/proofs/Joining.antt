-- The answer of adding a module, and what holds after it.
use Rattle.std.proofs.Common.{◌≡◌, ℕ, zero, suc, ◌+◌, ◌<◌, Bool, List, [], ◌∷◌, ◌++◌, length, map, slice_get, Option, Some, None, Ok, Err, is_some, refl, sym, ap, ◌∙◌, subst, arith, ◌⊎◌, inl, inr}
use Rattle.std.proofs.lemmas.List.{map-append, length-map}
use Rattle.std.proofs.lemmas.List.Elements.{All-push}
use Rattle.le_bytes.specs.declared.name.Name.{Name}
use Rattle.sym_mod.specs.declared.module.SymModule.{SymModule}
use Rattle.sym_mod.specs.Sound.{IsSoundModule}
use Rattle.linking_model.specs.Kept.{Read, appearance, kept_in}
use Rattle.linking_model.specs.Merged.{double_definition, symbol_count}
use Rattle.esd_index.specs.Contents.{Contents}
use Rattle.esd_index.specs.Steps.{flag_at}
use Rattle.esd_index.specs.Modules.{noted_module}
use Rattle.esd_lists.specs.declared.reading.Reading.{Reading}
use Rattle.esd_lists.specs.Indexed.{content_of}
use Rattle.esd_lists.specs.Held.{as_read, AreMarked}
use Rattle.esd_lists.proofs.Registers.{register_count}
use Rattle.esd_merge.specs.declared.fault.MergeFault.{MergeFault}
use Rattle.esd_merge.specs.declared.fault.MergeFault.TheVariants.{DoubleDefinition, TooManySymbols, Memory}
use Rattle.esd_merge.specs.Added.{with_module, merge_fault, AddAnswer, IsSoundRead, IsMerged}
use Rattle.esd_merge.specs.Entered.{count_of, fault_of, Enters}
use Rattle.esd_merge.proofs.Kept.{kept_in_old}
use Rattle.esd_merge.proofs.Clashes.{outcome}
use Rattle.esd_merge.proofs.Adding.{noted_as, marks_kept}

-- ---- the count

pub count_is : (rs : List Read) → count_of (content_of rs) ≡ symbol_count rs
unfolding content_of symbol_count
count_is rs = ap (λ (n : ℕ). length (appearance rs) + n) (register_count rs)

-- ---- the fault

fault_by : (rs : List Read) (o : Option Name) → double_definition rs ≡ o → fault_of (outcome o (content_of rs)) ≡ merge_fault rs
unfolding merge_fault
fault_by rs None e = rw (e, count_is rs) refl
fault_by rs (Some y) e = rw e refl

pub fault_is : (rs : List Read) (m : SymModule) (s : ℕ) → double_definition rs ≡ None → fault_of (noted_module (length rs) s m (content_of rs)) ≡ merge_fault (with_module rs m s)
fault_is rs m s none = ap fault_of (noted_as rs m s none) ∙ fault_by (with_module rs m s) (double_definition (with_module rs m s)) refl

no_double : (rs : List Read) (o : Option Name) → double_definition rs ≡ o → merge_fault rs ≡ None → o ≡ None
unfolding merge_fault
no_double rs None e none = refl
no_double rs (Some y) e none = absurd (cc (rw e at none))

pub no_clash : (rs : List Read) → merge_fault rs ≡ None → double_definition rs ≡ None
no_clash rs none = no_double rs (double_definition rs) refl none

err_answer : (A : Type 0) (rs : List Read) (m : SymModule) (s : ℕ) (old new : Contents) (f : MergeFault) → fault_of (noted_module (length rs) s m old) ≡ merge_fault (with_module rs m s)
    → Enters m old (noted_module (length rs) s m old) (Err f) new → AddAnswer {A = A} rs m s (Err f) rs
err_answer A rs m s old new Memory same enters = refl
err_answer A rs m s old new (DoubleDefinition y) same enters = (sym same ∙ enters, refl)
err_answer A rs m s old new (TooManySymbols n) same enters = (sym same ∙ enters, refl)

-- a module that makes a fault is not added
pub refused : (A : Type 0) (rs : List Read) (m : SymModule) (s : ℕ) (old new : Contents) (f : MergeFault) → merge_fault rs ≡ None → old ≡ content_of rs
    → Enters m old (noted_module (length rs) s m old) (Err f) new → AddAnswer {A = A} rs m s (Err f) rs
refused A rs m s old new f none is enters =
    err_answer A rs m s old new f (rw is (fault_is rs m s (no_clash rs none))) enters

-- what holds where a module is added
pub record IsAdded (rs : List Read) (m : SymModule) (s : ℕ) (kept : List Bool) (new : Contents) : Type 0 where
  pub faultless : merge_fault (with_module rs m s) ≡ None
  pub indexed : new ≡ content_of (with_module rs m s)
  pub flags : (j : ℕ) → flag_at kept j ≡ is_some (kept_in (with_module rs m s) (length rs) j)

ok_is : (o : Option Name) (c new : Contents) → outcome o c ≡ Ok new → new ≡ c
ok_is None c new e = cc
ok_is (Some y) c new e = absurd cc

pub accepted : (rs : List Read) (m : SymModule) (s : ℕ) (old new : Contents) (kept : List Bool) → merge_fault rs ≡ None → old ≡ content_of rs
    → Enters m old (noted_module (length rs) s m old) (Ok kept) new → IsAdded rs m s kept new
unfolding content_of
accepted rs m s old new kept none is enters =
    let clash : double_definition rs ≡ None = no_clash rs none in
    let wanted : noted_module (length rs) s m old ≡ outcome (double_definition (with_module rs m s)) (content_of (with_module rs m s)) = rw is (noted_as rs m s clash) in
    record {
      faultless = sym (rw is (fault_is rs m s clash)) ∙ enters.0;
      indexed = ok_is (double_definition (with_module rs m s)) (content_of (with_module rs m s)) new (sym wanted ∙ enters.1);
      flags = λ j. rw (enters.2, is) (sym (marks_kept rs m s j));
    }

-- ---- the marks of all modules

get_split : (xs : List Reading) (x z : Reading) (k : ℕ) → slice_get (xs ++ x ∷ []) k ≡ Some z → (slice_get xs k ≡ Some z × k < length xs) ⊎ (k ≡ length xs × x ≡ z)
get_split [] x z zero e = inr (refl, cc)
get_split [] x z (suc k) e = absurd cc
get_split (y ∷ xs) x z zero e = inl (e, omega arith)
get_split (y ∷ xs) x z (suc k) e = elim (get_split xs x z k e) [ inl h ↦ inl (h.0, omega (arith, h.1)) | inr h ↦ inr (omega (arith, h.0), h.1) ]

pub joined : (xs : List Reading) (x : Reading) → map as_read (xs ++ x ∷ []) ≡ with_module (map as_read xs) x.read x.segment
joined xs x = map-append as_read xs (x ∷ [])

pub next_marked : (xs : List Reading) (x : Reading) → AreMarked (map as_read xs) xs → ((j : ℕ) → flag_at x.kept j ≡ is_some (kept_in (with_module (map as_read xs) x.read x.segment) (length (map as_read xs)) j))
    → AreMarked (with_module (map as_read xs) x.read x.segment) (xs ++ x ∷ [])
next_marked xs x old here k z e j =
    elim (get_split xs x z k e) [
      | inl h ↦
          let low : k < length (map as_read xs) = rw (length-map xs as_read) h.1 in
          old k z h.0 j ∙ ap is_some (sym (kept_in_old (map as_read xs) x.read x.segment k j low))
      | inr h ↦
          let place : k ≡ length (map as_read xs) = h.0 ∙ sym (length-map xs as_read) in
          subst (λ (w : Reading). flag_at w.kept j ≡ is_some (kept_in (with_module (map as_read xs) x.read x.segment) k j)) h.1 (rw place (here j))
    ]

-- ---- what holds of all modules

pub none_merged : IsMerged []
unfolding merge_fault double_definition symbol_count appearance
none_merged = record { reads = λ k d low. absurd (omega arith); faultless = refl }

pub none_content : content_of [] ≡ record { symbols = []; sections = []; registers = []; controls = []; labels = []; strong = []; weak = []; named = []; labelled = [] }
unfolding content_of appearance
none_content = refl

pub next_merged : (rs : List Read) (m : SymModule) (s : ℕ) → IsMerged rs → IsSoundModule m → 0 < s → merge_fault (with_module rs m s) ≡ None → IsMerged (with_module rs m s)
next_merged rs m s old sound placed none = record {
  reads = All-push IsSoundRead rs (record { module_ = m; segment = s }) old.reads (record { sound = sound; placed = placed });
  faultless = none;
}
