-- A written member loads as its program is linked, and is entered where the program is.
use Rattle.std.proofs.Common.{drop, arith, ◌≡◌, ℕ, ◌+◌, ◌-◌, ◌<◌, ◌≤◌, Bool, true, false, ◌==◌, List, [], ◌∷◌, ◌++◌, map, filter, length, refl, sym, ◌∙◌, ap, subst}
use Rattle.std.specs.List.{AllByRecursion as Each}
use Rattle.std.proofs.lemmas.Bool.{eq-eqb}
use Rattle.std.proofs.lemmas.Option.{slice_get_within}
use Rattle.le_bytes.specs.declared.name.Name.{Name}
use Rattle.pds_directory.specs.declared.entry.Entry.{Entry}
use Rattle.pds_lib.specs.declared.member.Member.{Member}
use Rattle.pds_lib.specs.Stow.{alias_entry, entries_for}
use Rattle.load_recs.specs.declared.items.RldItem.{RldItem}
use Rattle.load_recs.specs.declared.items.SymbolItem.{SymbolItem}
use Rattle.linking_model.specs.Places.{Laid, is_overlay, place}
use Rattle.linking_model.specs.Tree.{Tree, IsTree}
use Rattle.linking_model.specs.Points.{Point}
use Rattle.linking_model.specs.Linked.{Placement, block, spread, point_address}
use Rattle.member_model.specs.SymbolList.{symbols_written}
use Rattle.member_model.specs.Facts.{Facts, Text, Field, no_facts, walked}
use Rattle.member_model.specs.Pieces.{Piece}
use Rattle.member_model.specs.Parts.{OneSection}
use Rattle.member_model.specs.Loaded.{Addresses, in_block, in_places, moved, loaded}
use Rattle.member_model.specs.Written.{Naming, address_of_point, item_of_point, alias_of, written_bytes, member_written}
use Rattle.member_laws.specs.Linkable.{IsLinkable, IsNamedFor, LiesInRoot}
use Rattle.member_laws.specs.Gathered.{pieces_in, texts_in, fields_in, with_segment, head_facts, facts_written, records_before}
use Rattle.member_laws.specs.Laws.{Gathers}
use Rattle.member_laws.specs.Storing.{HoldsSegment, BeginsSegment, SegmentsReadLoadLinked, IsPlaced, EntriesArePlaced, WrittenMembersLoad}
use Rattle.member_laws.proofs.LoadingLists.{each_from_all}
use Rattle.member_laws.proofs.LoadingSymbols.{address_of_part}
use Rattle.member_laws.proofs.LoadingTargets.{Found, there, section_is_part}
use Rattle.member_laws.proofs.LoadingBlock.{at_place, segments_load_linked}
use Rattle.member_laws.proofs.LoadingScatter.{at_address, scattered_load_linked}

-- ---- entry points

point_moves : (P : Laid) (q : Addresses) (Q : Placement) (x : Point) → IsLinkable P → x.section < length P.program.sections
    → q (item_of_point P x) ≡ Q.section x.section → IsPlaced P q Q x
point_moves P q Q x link inside same =
    ap (λ A. q (item_of_point P x) + (address_of_point P x - A)) (address_of_part P (OneSection x.section) (section_is_part P x.section link inside))
    ∙ (ap (λ n. n + (address_of_point P x - place P x.section)) same ∙ back (Q.section x.section) (place P x.section) x.offset)
  where
    back : (a p o : ℕ) → a + (p + o - p) ≡ a + o
    back a p o = omega arith

pub entries_are_placed : EntriesArePlaced
entries_are_placed P x link root =
    let at : Found P.program.sections x.section (λ y. (y.segment ≡ 1) × (x.offset ≤ y.length)) = there P.program.sections x.section _ root in
    let inside : x.section < length P.program.sections = slice_get_within P.program.sections x.section at.item at.found in
    record {
      together = λ at.
          point_moves P (in_block (symbols_written P) at) (block P at) x link inside
          (at_place P at (symbols_written P) (OneSection x.section) refl (section_is_part P x.section link inside));
      apart = λ plain addresses.
          point_moves P (in_places (symbols_written P) addresses) (spread addresses) x link inside
          (at_address P addresses (symbols_written P) x.section link plain refl inside);
    }

-- ---- facts

head_symbols : (P : Laid) (scatter : Bool) (n : ℕ) → (head_facts P scatter n).symbols ≡ symbols_written P
unfolding head_facts
head_symbols P scatter n = refl

head_texts : (P : Laid) (scatter : Bool) (n : ℕ) → (head_facts P scatter n).texts ≡ []
unfolding head_facts
head_texts P scatter n = refl

head_fields : (P : Laid) (scatter : Bool) (n : ℕ) → (head_facts P scatter n).fields ≡ []
unfolding head_facts
head_fields P scatter n = refl

root_facts : (P : Laid) (scatter : Bool) (n : ℕ) → facts_written P scatter n 1 ≡ with_segment P n 1 (head_facts P scatter n)
unfolding facts_written
root_facts P scatter n = refl

all_of_segment : {X Y : Type 0} (p : Y → Bool) (f : X → Y) (xs : List X) → ((x : X) → p (f x) ≡ true) → filter p (map f xs) ≡ map f xs
all_of_segment p f [] passes = refl
all_of_segment p f (x ∷ xs) passes = rw (passes x) (ap (λ ys. f x ∷ ys) (all_of_segment p f xs passes))

texts_of_segment : (P : Laid) (n s : ℕ) → filter (λ (t : Text). t.segment == s) (texts_in P n s) ≡ texts_in P n s
texts_of_segment P n s =
    all_of_segment (λ (t : Text). t.segment == s)
    (λ (x : Piece). record { segment = s; section = x.section; address = x.address; bytes = x.bytes }) (pieces_in P n s) (λ x. eq-eqb s s refl)

fields_of_segment : (P : Laid) (n s : ℕ) → filter (λ (x : Field). x.segment == s) (fields_in P n s) ≡ fields_in P n s
fields_of_segment P n s =
    all_of_segment (λ (x : Field). x.segment == s) (λ (x : RldItem). record { segment = s; item = x }) _ (λ x. eq-eqb s s refl)

-- one segment's text and items, after facts without any
pub segment_held : (P : Laid) (n s : ℕ) (F : Facts) → F.symbols ≡ symbols_written P → F.texts ≡ [] → F.fields ≡ []
    → HoldsSegment P n s (with_segment P n s F)
unfolding with_segment
segment_held P n s F symbols texts fields = record {
  symbols = symbols;
  texts = ap (λ ts. filter (λ (t : Text). t.segment == s) (ts ++ texts_in P n s)) texts ∙ texts_of_segment P n s;
  fields = ap (λ fs. filter (λ (x : Field). x.segment == s) (fs ++ fields_in P n s)) fields ∙ fields_of_segment P n s;
}

held_by_reading : (P : Laid) (n s : ℕ) (F : Facts) → BeginsSegment P s F → HoldsSegment P n s (with_segment P n s F)
held_by_reading P n s F begins = segment_held P n s F begins.symbols begins.texts begins.fields

pub segments_read_load_linked : SegmentsReadLoadLinked
segments_read_load_linked P scatter n s at F link format gathers first last begins a =
    let held : HoldsSegment P n s G =
    subst (HoldsSegment P n s) (sym (gathers.segment s F first last begins.segment begins.due)) (held_by_reading P n s F begins) in
    ap (λ symbols. loaded G (in_block symbols at) s a) (sym held.symbols) ∙ segments_load_linked P n s at G link format.some first last held a
  where
    G : Facts
    G = walked s F (drop (records_before P scatter n s) (written_bytes P scatter n))

root_held : (P : Laid) (scatter : Bool) (n : ℕ) → Gathers P scatter n → HoldsSegment P n 1 (walked 1 no_facts (written_bytes P scatter n))
root_held P scatter n gathers =
    subst (HoldsSegment P n 1) (sym (gathers.root ∙ root_facts P scatter n))
    (segment_held P n 1 (head_facts P scatter n) (head_symbols P scatter n) (head_texts P scatter n) (head_fields P scatter n))

-- ---- members

-- the entry points of a member, its own and those of its aliases
entries_same : (P : Laid) (scatter : Bool) (n : ℕ) (who : Naming) (q : Addresses) (Q : Placement) (symbols : List SymbolItem)
    → symbols ≡ symbols_written P → IsPlaced P q Q who.point → Each (λ (x : Name × Point). IsPlaced P q Q x.1) who.aliases
    → map (λ (e : Entry). moved symbols q e.entry_section e.entry) (entries_for (member_written P scatter n who))
    ≡ point_address Q who.point ∷ map (λ (name, x). point_address Q x) who.aliases
entries_same P scatter n who q Q symbols is main aliases =
    ap (λ symbols. map (λ (e : Entry). moved symbols q e.entry_section e.entry) (entries_for (member_written P scatter n who))) is
    ∙ (ap (λ a. a ∷ map (λ (e : Entry). moved (symbols_written P) q e.entry_section e.entry) (map (alias_entry m) (map (alias_of P) who.aliases))) main
    ∙ ap (λ rest. point_address Q who.point ∷ rest) (each who.aliases aliases))
  where
    m : Member
    m = member_written P scatter n who

    each : (xs : List (Name × Point)) → Each (λ (x : Name × Point). IsPlaced P q Q x.1) xs
        → map (λ (e : Entry). moved (symbols_written P) q e.entry_section e.entry) (map (alias_entry m) (map (alias_of P) xs))
        ≡ map (λ (name, x). point_address Q x) xs
    each [] all = refl
    each (x ∷ xs) all = ap (λ a. a ∷ map (λ (e : Entry). moved (symbols_written P) q e.entry_section e.entry) (map (alias_entry m) (map (alias_of P) xs))) all.0
        ∙ ap (λ rest. point_address Q x.1 ∷ rest) (each xs all.1)

placed_aliases : (P : Laid) (q : Addresses) (Q : Placement) (who : Naming) → IsNamedFor P who → ((x : Point) → LiesInRoot P x → IsPlaced P q Q x)
    → Each (λ (x : Name × Point). IsPlaced P q Q x.1) who.aliases
placed_aliases P q Q who named placed =
    each_from_all (λ (x : Name × Point). IsPlaced P q Q x.1) who.aliases (λ k d inside. placed _ (named.aliases k d inside).1)

has_root : (tree : Tree) → IsTree tree → 1 ≤ length tree
has_root [] is = absurd is
has_root (x ∷ older) is = omega arith

pub written_members_load : WrittenMembersLoad
written_members_load P scatter n who link format named gathers = record {
  in_block = λ at origin. record {
    storage = segments_load_linked P n 1 at F link format.some (omega arith) some_segment held;
    entries =
        entries_same P scatter n who (in_block F.symbols at) (block P at) F.symbols held.symbols
        (together at who.point named.point) (placed_aliases P (in_block F.symbols at) (block P at) who named (together at));
  };
  over_areas = λ scattering plain areas are addresses placed. record {
    storage = scattered_load_linked P n areas addresses F link plain format.some are placed held;
    entries =
        entries_same P scatter n who (in_places F.symbols addresses) (spread addresses) F.symbols held.symbols
        (apart plain addresses who.point named.point) (placed_aliases P (in_places F.symbols addresses) (spread addresses) who named (apart plain addresses));
  };
}
  where
    F : Facts
    F = walked 1 no_facts (written_bytes P scatter n)

    held : HoldsSegment P n 1 F
    held = root_held P scatter n gathers

    some_segment : 1 ≤ length P.tree
    some_segment = has_root P.tree link.tree

    together : (at : ℕ) (x : Point) → LiesInRoot P x → IsPlaced P (in_block F.symbols at) (block P at) x
    together at x root = subst (λ symbols. IsPlaced P (in_block symbols at) (block P at) x) (sym held.symbols) ((entries_are_placed P x link root).together at)

    apart : is_overlay P.tree ≡ false → (addresses : List ℕ) (x : Point) → LiesInRoot P x → IsPlaced P (in_places F.symbols addresses) (spread addresses) x
    apart plain addresses x root =
        subst (λ symbols. IsPlaced P (in_places symbols addresses) (spread addresses) x) (sym held.symbols) ((entries_are_placed P x link root).apart plain addresses)
