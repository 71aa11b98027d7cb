-- The text and the constants of a merged program lie in its sections, and no byte is in two constants.
use Rattle.std.proofs.Common.{◌≡◌, ℕ, suc, ◌+◌, ◌<◌, ◌≤◌, Bool, true, false, ◌==◌, List, [], ◌∷◌, length, map, slice_get, Some, is_some, refl, sym, ap, subst, arith, filter_map, flat_map, ◌⊎◌, inl, inr, All, AllPairs}
use Rattle.std.specs.List.{AllByRecursion, enumerate_from}
use Rattle.std.proofs.lemmas.List.Elements.{All-from_recursion, All-map}
use Rattle.le_bytes.specs.declared.name.Name.{Name}
use Rattle.le_bytes.specs.Names.{is_blank}
use Rattle.sym_mod.specs.declared.module.Frag.{Frag}
use Rattle.sym_mod.specs.declared.module.Item.{Item}
use Rattle.sym_mod.specs.declared.module.ItemKind.{ItemKind}
use Rattle.sym_mod.specs.declared.module.ItemKind.TheVariants.{Sd, Pc, Cm, Label as LabelItem, Er, Wx, Register}
use Rattle.sym_mod.specs.declared.module.SymConst.{SymConst}
use Rattle.sym_mod.specs.declared.module.SymModule.{SymModule}
use Rattle.sym_mod.specs.declared.module.SymTerm.{SymTerm}
use Rattle.sym_mod.specs.declared.program.Constant.{Constant}
use Rattle.sym_mod.specs.declared.program.Section.{Section}
use Rattle.sym_mod.specs.declared.program.SecKind.TheVariants.{Sd as SdSection, Pc as PcSection}
use Rattle.sym_mod.specs.declared.program.Term.{Term}
use Rattle.sym_mod.specs.declared.program.Text.{Text}
use Rattle.sym_mod.specs.Kinds.{kind_of, has_text}
use Rattle.sym_mod.specs.Sound.{IsAddress, FitsKind, TargetFitsKind, HaveProperSigns, LieInItem, LieInSection, IsSoundModule, IsSoundConst, IsSoundConstant, AreApart, ConstantsApart}
use Rattle.linking_model.specs.Kept.{Read, Sight, Symbol, ByName, Private, sights, is_at, sight_at, kept_sd, kept_as, kept_symbol, section_symbols, section_number, kept_in}
use Rattle.linking_model.specs.Merged.{sections, meaning, constant_of, constants, text_of, texts, program_of}
use Rattle.esd_lists.proofs.Sights.{find_passes, seen_at}
use Rattle.esd_merge.specs.Added.{IsSoundRead, IsMerged}
use Rattle.esd_merge.proofs.Homes.{IsLocated, located, all_found, Fits, fits_case, first_named, name_case, number_at, both_true, num_same}
use Rattle.esd_merge.proofs.SoundTargets.{IsIn, all_in, seen_here, target_fits}
use Rattle.esd_merge.proofs.SoundLists.{recursion, all_both, all_join, all_onto, all_mapped, Pairs, pairs_from, pairs_to, pairs_mapped, pairs_join, all_at, and_then_some, map_some, some_and, section_at}

-- ---- the section of an item that has text

text_kind : (x : Item) (b : Bool) (k : ItemKind) → is_blank x.name ≡ b → x.kind ≡ k → has_text k ≡ true → has_text (kind_of x) ≡ true
text_kind x true Sd d e h = rw (d, e) refl
text_kind x false Sd d e h = rw (d, e) refl
text_kind x true Pc d e h = rw (d, e) refl
text_kind x false Pc d e h = rw (d, e) refl
text_kind x b Cm d e h = absurd cc
text_kind x b LabelItem d e h = absurd cc
text_kind x b Er d e h = absurd cc
text_kind x b Wx d e h = absurd cc
text_kind x b Register d e h = absurd cc

-- what item n of module m is kept as, where it is kept in section j
record Home (rs : List Read) (m n j : ℕ) : Type 0 where
  symbol : Symbol
  sight : Sight
  seen : sight_at rs m n ≡ Some sight
  kept : kept_as rs sight (kind_of sight.item) ≡ Some symbol
  number : section_number rs symbol ≡ Some j

home : (rs : List Read) (m n j : ℕ) → kept_in rs m n ≡ Some j → Home rs m n j
unfolding kept_in
home rs m n j e =
    let s = and_then_some (section_number rs) (kept_symbol rs m n) j e in
    let x = and_then_some (λ (x : Sight). kept_as rs x (kind_of x.item)) (sight_at rs m n) s.0 s.1 in
    record { symbol = s.0; sight = x.0; seen = x.1; kept = x.2; number = s.2 }

lies_in : (rs : List Read) (j offset n : ℕ) (x : Sight) (s : Symbol) (sec : Section) → slice_get (sections rs) j ≡ Some sec → Fits rs s x sec → has_text (kind_of x.item) ≡ true → offset + n ≤ x.item.length
    → LieInSection (program_of rs) j offset n
unfolding program_of
lies_in rs j offset n x s sec at_j fits text low = kinds (fits.text text)
  where
    kinds : (sec.kind ≡ SdSection) ⊎ (sec.kind ≡ PcSection) → LieInSection (program_of rs) j offset n
    kinds (inl k) = rw (at_j, k) (tt, omega (arith, low, fits.room))
    kinds (inr k) = rw (at_j, k) (tt, omega (arith, low, fits.room))

-- the item in which the bytes lie, as it is seen
record TextItem (rs : List Read) (m n offset size : ℕ) : Type 0 where
  sight : Sight
  seen : sight_at rs m n ≡ Some sight
  text : has_text (kind_of sight.item) ≡ true
  room : offset + size ≤ sight.item.length

text_item : (rs : List Read) (m n offset size : ℕ) (r : Read) → slice_get rs m ≡ Some r → LieInItem r.module_.items n offset size → TextItem rs m n offset size
text_item rs m n offset size r at_m lies =
    let x = some_and _ (slice_get r.module_.items n) lies in
    record {
      sight = seen_at m r.segment n x.0;
      seen = seen_here rs m n r x.0 at_m x.1;
      text = text_kind x.0 (is_blank x.0.name) x.0.kind refl refl x.2.0;
      room = x.2.1;
    }

-- what lies in an item that is kept lies in its section
kept_lies : (rs : List Read) (m n j offset size : ℕ) (r : Read) → slice_get rs m ≡ Some r → LieInItem r.module_.items n offset size → kept_in rs m n ≡ Some j → LieInSection (program_of rs) j offset size
kept_lies rs m n j offset size r at_m lies kept =
    let h = home rs m n j kept in
    let x = text_item rs m n offset size r at_m lies in
    let same : h.sight ≡ x.sight = cc (h.seen, x.seen) in
    let fits = fits_case rs m n h.sight h.symbol (kind_of h.sight.item) h.seen refl h.kept in
    lies_in rs j offset size h.sight h.symbol fits.0 (section_at rs h.symbol j fits.0 h.number fits.1.is) fits.1 (rw same x.text) (rw same x.room)

-- ---- two items that have text are kept in two sections

-- an item that has text, kept in section j
record TextHome (rs : List Read) (m n j : ℕ) : Type 0 where
  home : Home rs m n j
  text : has_text (kind_of home.sight.item) ≡ true

text_home : (rs : List Read) (m n j offset size : ℕ) (r : Read) → slice_get rs m ≡ Some r → LieInItem r.module_.items n offset size → kept_in rs m n ≡ Some j → TextHome rs m n j
text_home rs m n j offset size r at_m lies kept =
    let h = home rs m n j kept in
    let x = text_item rs m n offset size r at_m lies in
    let same : h.sight ≡ x.sight = cc (h.seen, x.seen) in
    record { home = h; text = rw same x.text }

same_name : (x y : Name) (s : Symbol) → ByName x ≡ s → ByName y ≡ s → x ≡ y
same_name x y s d e = cc

same_private : (m n k l : ℕ) (s : Symbol) → Some (Private m n) ≡ Some s → Some (Private k l) ≡ Some s → (m ≡ k) × (n ≡ l)
same_private m n k l s d e = (cc, cc)

two_kinds : (x : Name) (m n : ℕ) (s : Symbol) → ByName x ≡ s → Some (Private m n) ≡ Some s → ⊥
two_kinds x m n s d e = absurd cc

abbrev SamePlace : Sight → Sight → Type 0
SamePlace x y = (x.of_module ≡ y.of_module) × (x.number ≡ y.number)

same_sight : (x y : Sight) → x ≡ y → SamePlace x y
same_sight x y e = (ap (λ (z : Sight). z.of_module) e, ap (λ (z : Sight). z.number) e)

same_kept : (rs : List Read) (x y : Sight) (k l : ItemKind) (s : Symbol) → IsLocated rs x → IsLocated rs y → has_text k ≡ true → has_text l ≡ true → kept_as rs x k ≡ Some s → kept_as rs y l ≡ Some s → SamePlace x y
same_kept rs x y Sd Sd s at_x at_y p q d e =
    let name : x.item.name ≡ y.item.name = same_name x.item.name y.item.name s (name_case x s (kept_sd rs x.item.name) d) (name_case y s (kept_sd rs y.item.name) e) in
    let one : kept_sd rs x.item.name ≡ Some x = first_named rs x s (kept_sd rs x.item.name) refl at_x d in
    let two : kept_sd rs y.item.name ≡ Some y = first_named rs y s (kept_sd rs y.item.name) refl at_y e in
    let here : kept_sd rs x.item.name ≡ Some y = subst (λ (n : Name). kept_sd rs n ≡ Some y) (sym name) two in
    same_sight x y (cc (one, here))
same_kept rs x y Sd Pc s at_x at_y p q d e = absurd (two_kinds x.item.name y.of_module y.number s (name_case x s (kept_sd rs x.item.name) d) e)
same_kept rs x y Pc Sd s at_x at_y p q d e = absurd (two_kinds y.item.name x.of_module x.number s (name_case y s (kept_sd rs y.item.name) e) d)
same_kept rs x y Pc Pc s at_x at_y p q d e = same_private x.of_module x.number y.of_module y.number s d e
same_kept rs x y Cm l s at_x at_y p q d e = absurd cc
same_kept rs x y LabelItem l s at_x at_y p q d e = absurd cc
same_kept rs x y Er l s at_x at_y p q d e = absurd cc
same_kept rs x y Wx l s at_x at_y p q d e = absurd cc
same_kept rs x y Register l s at_x at_y p q d e = absurd cc
same_kept rs x y Sd Cm s at_x at_y p q d e = absurd cc
same_kept rs x y Sd LabelItem s at_x at_y p q d e = absurd cc
same_kept rs x y Sd Er s at_x at_y p q d e = absurd cc
same_kept rs x y Sd Wx s at_x at_y p q d e = absurd cc
same_kept rs x y Sd Register s at_x at_y p q d e = absurd cc
same_kept rs x y Pc Cm s at_x at_y p q d e = absurd cc
same_kept rs x y Pc LabelItem s at_x at_y p q d e = absurd cc
same_kept rs x y Pc Er s at_x at_y p q d e = absurd cc
same_kept rs x y Pc Wx s at_x at_y p q d e = absurd cc
same_kept rs x y Pc Register s at_x at_y p q d e = absurd cc

at_place : (rs : List Read) (m n : ℕ) (x : Sight) → sight_at rs m n ≡ Some x → (x.of_module ≡ m) × (x.number ≡ n)
at_place rs m n x e =
    let both = both_true (x.of_module == m) (x.number == n) (find_passes (is_at m n) (sights rs) x e) in
    (num_same x.of_module m both.0, num_same x.number n both.1)

-- a section is the home of one item that has text
one_home : (rs : List Read) (m n k l j : ℕ) → TextHome rs m n j → TextHome rs k l j → (m ≡ k) × (n ≡ l)
one_home rs m n k l j a b =
    let h = a.home in
    let g = b.home in
    let one : slice_get (section_symbols rs) j ≡ Some h.symbol = number_at rs h.symbol j h.number in
    let two : slice_get (section_symbols rs) j ≡ Some g.symbol = number_at rs g.symbol j g.number in
    let symbol : g.symbol ≡ h.symbol = cc (one, two) in
    let kept : kept_as rs g.sight (kind_of g.sight.item) ≡ Some h.symbol = rw symbol at g.kept in
    let at_h : IsLocated rs h.sight = all_found (IsLocated rs) (is_at m n) (sights rs) h.sight (located rs) h.seen in
    let at_g : IsLocated rs g.sight = all_found (IsLocated rs) (is_at k l) (sights rs) g.sight (located rs) g.seen in
    let same = same_kept rs h.sight g.sight (kind_of h.sight.item) (kind_of g.sight.item) h.symbol at_h at_g a.text b.text h.kept kept in
    let here = at_place rs m n h.sight h.seen in
    let there = at_place rs k l g.sight g.seen in
    (cc (here.0, same.0, there.0), cc (here.1, same.1, there.1))

-- ---- what the modules bring

read_sound : (rs : List Read) (k : ℕ) (r : Read) → IsMerged rs → slice_get rs k ≡ Some r → IsSoundModule r.module_
read_sound rs k r m e =
    let sound : IsSoundRead r = all_at IsSoundRead rs k r (recursion IsSoundRead rs m.reads) e in
    sound.sound

-- ys are the modules from m on
abbrev Stand : List Read → ℕ → List Read → Type 0
Stand rs m ys = (i : ℕ) (r : Read) → slice_get ys i ≡ Some r → slice_get rs (m + i) ≡ Some r

stand_all : (rs : List Read) → Stand rs 0 rs
stand_all rs i r e =
    let none : 0 + i ≡ i = omega arith in
    rw none e

stand_here : (rs : List Read) (m : ℕ) (r : Read) (ys : List Read) → Stand rs m (r ∷ ys) → slice_get rs m ≡ Some r
stand_here rs m r ys stand =
    let same : m + 0 ≡ m = omega arith in
    rw same at (stand 0 r refl)

stand_later : (rs : List Read) (m : ℕ) (r : Read) (ys : List Read) → Stand rs m (r ∷ ys) → Stand rs (m + 1) ys
stand_later rs m r ys stand i z e =
    let shift : m + suc i ≡ m + 1 + i = omega arith in
    rw shift at (stand (suc i) z e)

flat_all : {B : Type 0} (Q : B → Type 0) (f : ℕ × Read → List B) (rs : List Read) (m : ℕ) (ys : List Read) → Stand rs m ys → ((k : ℕ) (r : Read) → m ≤ k → slice_get rs k ≡ Some r → AllByRecursion Q (f (k, r)))
    → AllByRecursion Q (flat_map f (enumerate_from m ys))
flat_all Q f rs m [] stand give = tt
flat_all Q f rs m (r ∷ ys) stand give =
    all_join Q (f (m, r)) (flat_map f (enumerate_from (m + 1) ys)) (give m r (omega arith) (stand_here rs m r ys stand))
    (flat_all Q f rs (m + 1) ys (stand_later rs m r ys stand) (λ k s low e. give k s (omega (arith, low)) e))

flat_pairs : {B : Type 0} (R : B → B → Type 0) (P : ℕ → B → Type 0) (f : ℕ × Read → List B) (rs : List Read) (m : ℕ) (ys : List Read) → Stand rs m ys
    → ((k : ℕ) (r : Read) → slice_get rs k ≡ Some r → AllByRecursion (P k) (f (k, r)) × Pairs R (f (k, r))) → ((k l : ℕ) (x y : B) → k < l → P k x → P l y → R x y)
    → Pairs R (flat_map f (enumerate_from m ys))
flat_pairs R P f rs m [] stand give apart = tt
flat_pairs {B} R P f rs m (r ∷ ys) stand give apart =
    let here = give m r (stand_here rs m r ys stand) in
    let later : Stand rs (m + 1) ys = stand_later rs m r ys stand in
    let across : (x : B) → P m x → AllByRecursion (R x) (flat_map f (enumerate_from (m + 1) ys)) = λ x p.
    flat_all (R x) f rs (m + 1) ys later (λ k s low e. all_onto (P k) (R x) (λ y q. apart m k x y (omega (arith, low)) p q) (f (k, s)) (give k s e).0) in
    pairs_join R (f (m, r)) (flat_map f (enumerate_from (m + 1) ys)) here.1 (flat_pairs R P f rs (m + 1) ys later give apart)
    (all_onto (P m) (λ x. AllByRecursion (R x) (flat_map f (enumerate_from (m + 1) ys))) across (f (m, r)) here.0)

-- ---- text

text_inside : (rs : List Read) (k : ℕ) (r : Read) (f : Frag) (t : Text) → slice_get rs k ≡ Some r → LieInItem r.module_.items f.item f.offset (length f.bytes) → text_of rs k f ≡ Some t
    → LieInSection (program_of rs) t.section t.offset (length t.bytes)
text_inside rs k r f t at_k lies e =
    let made = map_some (λ i. let t : Text = record { section = i; offset = f.offset; bytes = f.bytes } in t) (kept_in rs k f.item) t e in
    subst (λ (t : Text). LieInSection (program_of rs) t.section t.offset (length t.bytes)) made.2 (kept_lies rs k f.item made.0 f.offset (length f.bytes) r at_k lies made.1)

pub texts_inside : (rs : List Read) → IsMerged rs → All (λ t. LieInSection (program_of rs) t.section t.offset (length t.bytes)) (texts rs)
texts_inside rs m =
    All-from_recursion (λ (t : Text). LieInSection (program_of rs) t.section t.offset (length t.bytes)) (texts rs)
    (flat_all (λ (t : Text). LieInSection (program_of rs) t.section t.offset (length t.bytes)) (λ (k, r). filter_map (text_of rs k) r.module_.fragments) rs 0 rs (stand_all rs)
    (λ k r low at_k. all_mapped (λ (f : Frag). LieInItem r.module_.items f.item f.offset (length f.bytes)) (λ (t : Text). LieInSection (program_of rs) t.section t.offset (length t.bytes)) (text_of rs k)
    (λ f t lies e. text_inside rs k r f t at_k lies e) r.module_.fragments
    (recursion (λ (f : Frag). LieInItem r.module_.items f.item f.offset (length f.bytes)) r.module_.fragments (read_sound rs k r m at_k).fragments)))

-- ---- constants apart

-- a term and a constant as they are kept, the constant in section i
abbrev kept_term : List Read → ℕ → SymModule → SymTerm → Term
kept_term rs m x t = record { minus = t.minus; target = meaning rs m x t.target; base = t.base }

abbrev kept_constant : List Read → ℕ → SymModule → SymConst → ℕ → Constant
kept_constant rs m x c i = record { section = i; offset = c.offset; length = c.length; kind = c.kind; terms = map (kept_term rs m x) c.terms }

-- the constant comes from module k
abbrev Comes : List Read → ℕ → Constant → Type 0
Comes rs k c = (n : ℕ) × TextHome rs k n c.section

comes : (rs : List Read) (k : ℕ) (r : Read) (c : SymConst) (d : Constant) → slice_get rs k ≡ Some r → IsSoundConst r.module_.items c → constant_of rs k r.module_ c ≡ Some d → Comes rs k d
comes rs k r c d at_k sound e =
    let made = map_some (kept_constant rs k r.module_ c) (kept_in rs k c.item) d e in
    (c.item, subst (λ (d : Constant). TextHome rs k c.item d.section) made.2 (text_home rs k c.item made.0 c.offset c.length r at_k sound.inside made.1))

apart_in : (rs : List Read) (k : ℕ) (r : Read) (c d : SymConst) (v w : Constant) → slice_get rs k ≡ Some r → IsSoundConst r.module_.items c → IsSoundConst r.module_.items d → AreApart c d
    → constant_of rs k r.module_ c ≡ Some v → constant_of rs k r.module_ d ≡ Some w → ConstantsApart v w
apart_in rs k r c d v w at_k p q apart e f =
    let one = map_some (kept_constant rs k r.module_ c) (kept_in rs k c.item) v e in
    let two = map_some (kept_constant rs k r.module_ d) (kept_in rs k d.item) w f in
    let home_c : TextHome rs k c.item one.0 = text_home rs k c.item one.0 c.offset c.length r at_k p.inside one.1 in
    let home_d : TextHome rs k d.item two.0 = text_home rs k d.item two.0 d.offset d.length r at_k q.inside two.1 in
    let made : ConstantsApart (kept_constant rs k r.module_ c one.0) (kept_constant rs k r.module_ d two.0) = λ same.
    apart (one_home rs k c.item k d.item two.0 (subst (λ (j : ℕ). TextHome rs k c.item j) same home_c) home_d).1 in
    subst (λ (v : Constant). ConstantsApart v w) one.2 (subst (λ (w : Constant). ConstantsApart (kept_constant rs k r.module_ c one.0) w) two.2 made)

apart_across : (rs : List Read) (k l : ℕ) (v w : Constant) → k < l → Comes rs k v → Comes rs l w → ConstantsApart v w
apart_across rs k l v w low p q same =
    let one : k ≡ l = (one_home rs k p.0 l q.0 w.section (subst (λ (j : ℕ). TextHome rs k p.0 j) same p.1) q.1).0 in
    absurd (omega (arith, low, one))

module_apart : (rs : List Read) (k : ℕ) (r : Read) → slice_get rs k ≡ Some r → IsSoundModule r.module_
    → AllByRecursion (Comes rs k) (filter_map (constant_of rs k r.module_) r.module_.constants) × Pairs ConstantsApart (filter_map (constant_of rs k r.module_) r.module_.constants)
module_apart rs k r at_k sound =
    let each : AllByRecursion (IsSoundConst r.module_.items) r.module_.constants = recursion (IsSoundConst r.module_.items) r.module_.constants sound.constants in (
      all_mapped (IsSoundConst r.module_.items) (Comes rs k) (constant_of rs k r.module_) (λ c d p e. comes rs k r c d at_k p e) r.module_.constants each,
      pairs_mapped (IsSoundConst r.module_.items) AreApart ConstantsApart (constant_of rs k r.module_) (λ c d v w p q apart e f. apart_in rs k r c d v w at_k p q apart e f) r.module_.constants each
          (pairs_from AreApart r.module_.constants sound.apart),
    )

pub constants_apart : (rs : List Read) → IsMerged rs → AllPairs ConstantsApart (constants rs)
constants_apart rs m =
    pairs_to ConstantsApart (constants rs)
    (flat_pairs ConstantsApart (Comes rs) (λ (k, r). filter_map (constant_of rs k r.module_) r.module_.constants) rs 0 rs (stand_all rs)
    (λ k r at_k. module_apart rs k r at_k (read_sound rs k r m at_k)) (apart_across rs))

-- ---- constants

map_twice : {A B C : Type 0} (g : B → C) (f : A → B) (xs : List A) → map g (map f xs) ≡ map (λ x. g (f x)) xs
map_twice g f [] = refl
map_twice g f (x ∷ xs) = ap (λ (ys : List _). g (f x) ∷ ys) (map_twice g f xs)

targets_fit : (rs : List Read) (k : ℕ) (r : Read) (c : SymConst) → slice_get rs k ≡ Some r → IsIn r.module_.constants c → is_some (kept_in rs k c.item) ≡ true → All (λ t. FitsKind r.module_.items c.kind t.target) c.terms
    → All (λ t. TargetFitsKind (program_of rs) c.kind t.target) (map (kept_term rs k r.module_) c.terms)
targets_fit rs k r c at_k among kept fits =
    let each : AllByRecursion (λ (t : SymTerm). IsIn c.terms t × FitsKind r.module_.items c.kind t.target) c.terms =
    all_both (IsIn c.terms) (λ (t : SymTerm). FitsKind r.module_.items c.kind t.target) c.terms (all_in c.terms) (recursion (λ (t : SymTerm). FitsKind r.module_.items c.kind t.target) c.terms fits) in
    All-map (λ (t : Term). TargetFitsKind (program_of rs) c.kind t.target) (kept_term rs k r.module_) c.terms
    (All-from_recursion (λ (t : SymTerm). TargetFitsKind (program_of rs) c.kind (meaning rs k r.module_ t.target)) c.terms
    (all_onto (λ (t : SymTerm). IsIn c.terms t × FitsKind r.module_.items c.kind t.target) (λ (t : SymTerm). TargetFitsKind (program_of rs) c.kind (meaning rs k r.module_ t.target))
    (λ t h. target_fits rs k r c t c.kind (record { module_at = at_k; among = among; kept = kept; term = h.0 }) h.1) c.terms each))

constant_sound : (rs : List Read) (k : ℕ) (r : Read) (c : SymConst) (d : Constant) → slice_get rs k ≡ Some r → IsIn r.module_.constants c → IsSoundConst r.module_.items c → constant_of rs k r.module_ c ≡ Some d
    → IsSoundConstant (program_of rs) d
constant_sound rs k r c d at_k among sound e =
    let made = map_some (kept_constant rs k r.module_ c) (kept_in rs k c.item) d e in
    let signs : map (λ (t : Term). t.minus) (map (kept_term rs k r.module_) c.terms) ≡ map (λ (t : SymTerm). t.minus) c.terms = map_twice (λ (t : Term). t.minus) (kept_term rs k r.module_) c.terms in
    subst (IsSoundConstant (program_of rs)) made.2 (record {
      not_empty = sound.not_empty;
      short = sound.short;
      inside = kept_lies rs k c.item made.0 c.offset c.length r at_k sound.inside made.1;
      signs = subst (HaveProperSigns c.kind) (sym signs) sound.signs;
      targets = targets_fit rs k r c at_k among (ap is_some made.1) sound.targets;
      bases = All-map (λ (t : Term). IsAddress t.base) (kept_term rs k r.module_) c.terms sound.bases;
    })

pub constants_sound : (rs : List Read) → IsMerged rs → All (IsSoundConstant (program_of rs)) (constants rs)
constants_sound rs m =
    All-from_recursion (IsSoundConstant (program_of rs)) (constants rs)
    (flat_all (IsSoundConstant (program_of rs)) (λ (k, r). filter_map (constant_of rs k r.module_) r.module_.constants) rs 0 rs (stand_all rs)
    (λ k r low at_k. all_mapped (λ (c : SymConst). IsIn r.module_.constants c × IsSoundConst r.module_.items c) (IsSoundConstant (program_of rs)) (constant_of rs k r.module_)
    (λ c d h e. constant_sound rs k r c d at_k h.0 h.1 e) r.module_.constants
    (all_both (IsIn r.module_.constants) (IsSoundConst r.module_.items) r.module_.constants (all_in r.module_.constants)
    (recursion (IsSoundConst r.module_.items) r.module_.constants (read_sound rs k r m at_k).constants))))
