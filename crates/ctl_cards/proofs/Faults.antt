-- Where a walk stops is where the operand is bad.
use Rattle.std.proofs.Common.{◌≡◌, ◌≢◌, ℕ, zero, suc, ◌+◌, ◌-◌, ◌<◌, ◌≤◌, Bool, true, false, cond, List, [], ◌∷◌, ◌++◌, length, take, map, Option, Some, None, refl, sym, ap, subst, ◌∙◌, arith, append_assoc}
use Rattle.std.specs.List.{flat_map}
use Rattle.std.specs.Str.{bytes_eq}
use Rattle.std.proofs.lemmas.Slice.Eq.{bytes_eq-Decides}
use Rattle.std.proofs.lemmas.List.{append-nil, length-append, take_at}
use Rattle.le_bytes.specs.declared.name.Name.{Name}
use Rattle.ctl_cards.specs.NameTexts.{written, IsWritable}
use Rattle.ctl_cards.specs.Statements.{Item, joined, item_text, IsList, IsWellFormed, items_of, operand_of, include_item, library_item, replace_item, change_item, name_item, marked_item, replace_word, region_word, IsIncludeItem, IsLibraryItem, IsReplaceItem, IsChangeItem}
use Rattle.ctl_cards.specs.Operations.{operation_of, operation_text, operation_named}
use Rattle.ctl_cards.specs.Grammar.{Spells, BeginsOperand, IsBadAt, IsKnown}
use Rattle.ctl_cards.specs.Walk.{Form, Point, AtItem, stop_of, form_of, word_form}
use Rattle.ctl_cards.specs.Reads.{IsStatementOf, marked_text}
use Rattle.ctl_cards.specs.declared.operation.Operation.{Operation}
use Rattle.ctl_cards.specs.declared.operation.Operation.TheVariants.{Include, Library, Replace, Change, Entry, Alias, NameOf, Insert, Overlay}
use Rattle.ctl_cards.specs.declared.statement.IncludeItem.{IncludeItem}
use Rattle.ctl_cards.specs.declared.statement.LibraryItem.{LibraryItem}
use Rattle.ctl_cards.specs.declared.statement.Statement.{Statement}
use Rattle.ctl_cards.specs.declared.statement.Statement.TheVariants as statement
use Rattle.ctl_cards.proofs.Items.{Goes, GoesItem}
use Rattle.ctl_cards.proofs.Accepts.{accepts}
use Rattle.ctl_cards.proofs.Lowered.{fits, lifted, sound, replace_written, region_written}
use Rattle.ctl_cards.proofs.Places.{StopsThere, stops_there, none_is_no_text}

-- ---- operations and their texts

pub named_text : (a : Operation) → operation_named (operation_text a) ≡ Some a
named_text Include = refl
named_text Library = refl
named_text Replace = refl
named_text Change = refl
named_text Entry = refl
named_text Alias = refl
named_text NameOf = refl
named_text Insert = refl
named_text Overlay = refl

same_operation : (a b : Operation) → Some a ≡ Some b → a ≡ b
same_operation a b e = cc

pub text_injective : (a b : Operation) → operation_text a ≡ operation_text b → a ≡ b
text_injective a b e = same_operation a b (sym (named_text a) ∙ ap operation_named e ∙ named_text b)

-- some statement has each operation
pub known : (a : Operation) → IsKnown (operation_text a)
known Include = (statement.Include [], refl)
known Library = (statement.Library [], refl)
known Replace = (statement.Replace [], refl)
known Change = (statement.Change [], refl)
known Entry = (statement.Entry replace_word, refl)
known Alias = (statement.Alias [], refl)
known NameOf = (statement.NameOf replace_word true, refl)
known Insert = (statement.Insert [], refl)
known Overlay = (statement.Overlay replace_word true, refl)

no_operation : (a : Operation) → Some a ≡ None → ⊥
no_operation a e = cc

pub unknown : (text : List ℕ) → operation_named text ≡ None → IsKnown text → ⊥
unknown text e k = no_operation (operation_of k.0) (sym (named_text (operation_of k.0)) ∙ ap operation_named k.1 ∙ e)

-- ---- valid operands

pub valid : (op : Operation) (text : List ℕ) (s : Statement) → Spells (operation_text op) text s → stop_of (form_of op) AtItem text ≡ None
valid op text s h =
    let same = text_injective (operation_of s) op h.has_operation in
    let whole = accepts (form_of (operation_of s)) (items_of s) (fits s h.formed) in
    subst (λ (a : Operation). stop_of (form_of a) AtItem text ≡ None) same
    (subst (λ (t : List ℕ). stop_of (form_of (operation_of s)) AtItem t ≡ None) h.has_operand whole)

take_past : (front : List ℕ) (b : ℕ) (t : List ℕ) (k : ℕ) → length front < k → (u : List ℕ) × (take k (front ++ (b ∷ t)) ≡ front ++ (b ∷ u))
take_past [] b t zero lt = absurd (omega arith)
take_past [] b t (suc k) lt = (take k t, refl)
take_past (c ∷ front) b t zero lt = absurd (omega arith)
take_past (c ∷ front) b t (suc k) lt =
    let more = take_past front b t k (omega arith) in
    (more.0, ap (λ (x : List ℕ). c ∷ x) more.1)

none_longer : (op : Operation) (w front rest : List ℕ) (q : Point) → w ≡ front ++ rest → ((z : List ℕ) → stop_of (form_of op) AtItem (front ++ z) ≡ stop_of (form_of op) q z) → ((b : ℕ) (t z : List ℕ) → rest ≡ b ∷ t → stop_of (form_of op) q (b ∷ z) ≡ Some (b ∷ z)) → (k : ℕ) → length w - length rest + 1 ≤ k → k ≤ length w → BeginsOperand (operation_text op) (take k w) → ⊥
none_longer op w front [] q parts again blocked k low high h = omega arith
none_longer op w front (b ∷ t) q parts again blocked k low high h =
    let long : length w ≡ length front + length (b ∷ t) = ap length parts ∙ length-append front (b ∷ t) in
    let cut = take_past front b t k (omega arith) in
    let u = cut.0 in
    let text : take k w ++ h.1 ≡ front ++ (b ∷ (u ++ h.1)) =
    ap (λ (x : List ℕ). take k x ++ h.1) parts ∙ ap (λ (x : List ℕ). x ++ h.1) cut.1 ∙ append_assoc front (b ∷ u) h.1 in
    let ends = valid op (take k w ++ h.1) h.0 h.2 in
    let stops : stop_of (form_of op) AtItem (take k w ++ h.1) ≡ Some (b ∷ (u ++ h.1)) =
    ap (stop_of (form_of op) AtItem) text ∙ again (b ∷ (u ++ h.1)) ∙ blocked b t (u ++ h.1) refl in
    none_is_no_text (b ∷ (u ++ h.1)) (sym ends ∙ stops)

spells_from : (op : Operation) (text : List ℕ) (s : Statement) → IsStatementOf op text s → Spells (operation_text op) text s
spells_from op text s h = record { formed = h.formed; has_operation = ap operation_text h.has_operation; has_operand = h.has_operand }

pub bad_place : (op : Operation) (w rest : List ℕ) → stop_of (form_of op) AtItem w ≡ Some rest → IsBadAt (operation_text op) w (length w - length rest + 1)
bad_place op w rest e =
    let st = stops_there (form_of op) AtItem w rest (sound op) tt e in
    let long : length w ≡ length st.front + length rest = ap length st.parts ∙ length-append st.front rest in
    let front : take (length w - length rest + 1 - 1) w ≡ st.front =
    ap (λ (t : List ℕ). take (length w - length rest + 1 - 1) t) st.parts ∙ take_at st.front rest (length w - length rest + 1 - 1) (omega arith) in
    let g : GoesItem (form_of op) (st.front ++ st.more) = st.goes in
    let s = lifted op g.x g.xs g.item_fits g.tail_fits (st.front ++ st.more) g.text in
    record {
      not_valid = λ t h. none_is_no_text rest (sym (valid op w t h) ∙ e);
      place = (omega arith, omega arith);
      begins = subst (λ (t : List ℕ). BeginsOperand (operation_text op) t) (sym front) (s.0, st.more, spells_from op (st.front ++ st.more) s.0 s.1);
      no_longer = none_longer op w st.front rest st.q st.parts st.again st.blocked;
    }

pub stop_short : (op : Operation) (w rest : List ℕ) → stop_of (form_of op) AtItem w ≡ Some rest → length rest ≤ length w
stop_short op w rest e =
    let st = stops_there (form_of op) AtItem w rest (sound op) tt e in
    let long : length w ≡ length st.front + length rest = ap length st.parts ∙ length-append st.front rest in
    omega arith

-- ---- what was read, as a statement

tail_map : {X : Type 0} (item : X → Item) (xs : List X) → flat_map (λ y. 107 ∷ item_text y) (map item xs) ≡ flat_map (λ y. 107 ∷ item_text (item y)) xs
tail_map item [] = refl
tail_map item (x ∷ xs) = ap (λ (t : List ℕ). (107 ∷ item_text (item x)) ++ t) (tail_map item xs)

pub joined_map : {X : Type 0} (item : X → Item) (xs : List X) → joined item_text (map item xs) ≡ joined (λ x. item_text (item x)) xs
joined_map item [] = refl
joined_map item (x ∷ xs) = ap (λ (t : List ℕ). item_text (item x) ++ t) (tail_map item xs)

pub is_include : (old : List ℕ) (xs : List IncludeItem) → IsList IsIncludeItem xs × (old ≡ joined (λ x. item_text (include_item x)) xs) → IsStatementOf Include old (statement.Include xs)
is_include old xs h = record { formed = h.0; has_operation = refl; has_operand = joined_map include_item xs ∙ sym h.1 }

pub is_library : (old : List ℕ) (xs : List LibraryItem) → IsList IsLibraryItem xs × (old ≡ joined (λ x. item_text (library_item x)) xs) → IsStatementOf Library old (statement.Library xs)
is_library old xs h = record { formed = h.0; has_operation = refl; has_operand = joined_map library_item xs ∙ sym h.1 }

pub is_replace : (old : List ℕ) (xs : List (Name × Option Name)) → IsList IsReplaceItem xs × (old ≡ joined (λ x. item_text (replace_item x)) xs) → IsStatementOf Replace old (statement.Replace xs)
is_replace old xs h = record { formed = h.0; has_operation = refl; has_operand = joined_map replace_item xs ∙ sym h.1 }

pub is_change : (old : List ℕ) (xs : List (Name × Name)) → IsList IsChangeItem xs × (old ≡ joined (λ x. item_text (change_item x)) xs) → IsStatementOf Change old (statement.Change xs)
is_change old xs h = record { formed = h.0; has_operation = refl; has_operand = joined_map change_item xs ∙ sym h.1 }

pub is_alias : (old : List ℕ) (xs : List Name) → IsList IsWritable xs × (old ≡ joined (λ x. item_text (name_item x)) xs) → IsStatementOf Alias old (statement.Alias xs)
is_alias old xs h = record { formed = h.0; has_operation = refl; has_operand = joined_map name_item xs ∙ sym h.1 }

pub is_insert : (old : List ℕ) (xs : List Name) → IsList IsWritable xs × (old ≡ joined (λ x. item_text (name_item x)) xs) → IsStatementOf Insert old (statement.Insert xs)
is_insert old xs h = record { formed = h.0; has_operation = refl; has_operand = joined_map name_item xs ∙ sym h.1 }

pub is_entry : (old : List ℕ) (n : Name) → IsWritable n × (old ≡ item_text (name_item n)) → IsStatementOf Entry old (statement.Entry n)
is_entry old n h = record { formed = h.0; has_operation = refl; has_operand = append-nil (item_text (name_item n)) ∙ sym h.1 }

marked_same : (word n : Name) (b : Bool) → item_text (marked_item word (n, b)) ≡ marked_text (written word) (n, b)
marked_same word n true = ap (λ (t : List ℕ). written n ++ (77 ∷ t)) (ap (λ (t : List ℕ). t ++ (93 ∷ [])) (append-nil (written word)))
marked_same word n false = refl

pub is_name : (old : List ℕ) (n : Name) (b : Bool) → IsWritable n × (old ≡ marked_text (217 ∷ []) (n, b)) → IsStatementOf NameOf old (statement.NameOf n b)
is_name old n b h = record {
  formed = h.0;
  has_operation = refl;
  has_operand = append-nil (item_text (marked_item replace_word (n, b))) ∙ marked_same replace_word n b ∙ ap (λ (t : List ℕ). marked_text t (n, b)) replace_written ∙ sym h.1;
}

pub is_overlay : (old : List ℕ) (n : Name) (b : Bool) → IsWritable n × (old ≡ marked_text (217 ∷ 197 ∷ 199 ∷ 201 ∷ 214 ∷ 213 ∷ []) (n, b)) → IsStatementOf Overlay old (statement.Overlay n b)
is_overlay old n b h = record {
  formed = h.0;
  has_operation = refl;
  has_operand = append-nil (item_text (marked_item region_word (n, b))) ∙ marked_same region_word n b ∙ ap (λ (t : List ℕ). marked_text t (n, b)) region_written ∙ sym h.1;
}

-- the text of the operation that a text names
bytes_same : (xs ys : List ℕ) → bytes_eq xs ys ≡ true → xs ≡ ys
bytes_same xs ys e = (bytes_eq-Decides xs ys).0 e

named_if : (b : Bool) (text word : List ℕ) (a op : Operation) (more : Option Operation) → (b ≡ true → text ≡ word) → word ≡ operation_text a → (more ≡ Some op → operation_text op ≡ text) → cond b (Some a) more ≡ Some op → operation_text op ≡ text
named_if true text word a op more h w m e = ap operation_text (sym (same_operation a op e)) ∙ sym w ∙ sym (h refl)
named_if false text word a op more h w m e = m e

by_eq : (text : List ℕ) (a op : Operation) (more : Option Operation) → (more ≡ Some op → operation_text op ≡ text) → cond (bytes_eq text (operation_text a)) (Some a) more ≡ Some op → operation_text op ≡ text
by_eq text a op more m e = named_if (bytes_eq text (operation_text a)) text (operation_text a) a op more (λ t. bytes_same text (operation_text a) t) refl m e

pub text_of_named : (text : List ℕ) (op : Operation) → operation_named text ≡ Some op → operation_text op ≡ text
text_of_named text op e =
    by_eq text Include op _ (by_eq text Library op _ (by_eq text Replace op _ (by_eq text Change op _ (by_eq text Entry op _ (by_eq text Alias op _ (by_eq text NameOf op _ (by_eq text Insert op _ (by_eq text Overlay op _ (λ d. absurd (no_operation op (sym d))))))))))) e
