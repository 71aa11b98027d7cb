-- Words that ask for what is built: the sets and the options that they may name.
use Rattle.std.proofs.Common.{◌≡◌, ℕ, suc, zero, ◌+◌, ◌<◌, Bool, true, false, not, ◌&&◌, ◌||◌, List, [], ◌∷◌, length, map, drop, get_or, All, refl, sym, ◌∙◌, ap, subst, Option, Some, None, String, string_bytes, if◌then◌else◌}
use Rattle.std.specs.Prelude.{IfSome, IsSome}
use Rattle.std.specs.List.{list_all, list_any}
use Rattle.std.specs.Option.{option_and_then, option_map_or}
use Rattle.std.proofs.lemmas.List.Elements.{All-head, All-tail}
use Rattle.le_bytes.specs.declared.name.Name.{Name}
use Rattle.le_bytes.specs.Names.{name_eq}
use Rattle.command_words.specs.declared.command.Command.{Command}
use Rattle.command_words.specs.declared.command.Command.TheVariants.{Go, Link, Fetch}
use Rattle.command_words.specs.declared.options.Options.{Options as WordOptions}
use Rattle.command_words.specs.Judged.{bad_word}
use Rattle.command_words.specs.Keys.{is_reserved, member, origin, parm, syslib, syslin, syslmod}
use Rattle.command_words.specs.Meaning.{command_of, data_set_in, options_of, path_of}
use Rattle.command_words.specs.Word.{KeyValue, has_key, is_given, key_value, value_in}
use Rattle.command_words.proofs.AskedLemmas.{name_eq-true, no_key, path_asked, value_given}
use Rattle.pds_directory.specs.declared.kinds.Version.{Version}
use Rattle.pds_lib.specs.declared.set.Set.{Set}
use Rattle.pds_lib.proofs.ReadSound.{same_name}
use Rattle.link_core.specs.Sets.{has_set}
use Rattle.command_sets.specs.Reading.{IsReadSet}
use Rattle.command_sets.specs.Sets.{names_output}
use Rattle.command_link.specs.Link.{are_heeded_options}
use Rattle.linkedit_top.specs.Outcome.{are_built_options, are_built_settings, is_built, is_built_setting}
use Rattle.command_sets.proofs.SetsRead.{from_place}

pub both : (a b : Bool) → (a && b) ≡ true → (a ≡ true) × (b ≡ true)
both true true is = (refl, refl)
both true false is = absurd cc
both false b is = absurd cc

-- ---- options

heeded_of : (a b n x o s r : Bool) → not (a || b || n || x || o || s || r) ≡ true → not (a || b || x || o) ≡ true
heeded_of true b n x o s r is = absurd cc
heeded_of false true n x o s r is = absurd cc
heeded_of false false true x o s r is = absurd cc
heeded_of false false false true o s r is = absurd cc
heeded_of false false false false true s r is = absurd cc
heeded_of false false false false false s r is = refl

-- every option of linking that is on is heeded
pub heeded : (words : List (List ℕ)) → is_built words ≡ true → are_heeded_options words ≡ true
heeded words built =
    let o : WordOptions = options_of words in
    heeded_of o.map o.xref o.ncal o.xcal o.ovly o.sctr o.rent (both (are_built_settings words) (are_built_options o) built).1

-- ---- no word names SYSLIB

other : (k known : Name) → name_eq known syslib ≡ false → name_eq k known ≡ true → name_eq k syslib ≡ false
other k known differs same = subst (λ n. name_eq n syslib ≡ false) (sym (name_eq-true k known same)) differs

of_five : (a b c d e h : Bool) → (a ≡ true → h ≡ false) → (b ≡ true → h ≡ false) → (c ≡ true → h ≡ false) → (d ≡ true → h ≡ false) → (e ≡ true → h ≡ false)
    → (a || b || c || d || e) ≡ true → h ≡ false
of_five true b c d e h of_a of_b of_c of_d of_e is = of_a refl
of_five false true c d e h of_a of_b of_c of_d of_e is = of_b refl
of_five false false true d e h of_a of_b of_c of_d of_e is = of_c refl
of_five false false false true e h of_a of_b of_c of_d of_e is = of_d refl
of_five false false false false true h of_a of_b of_c of_d of_e is = of_e refl
of_five false false false false false h of_a of_b of_c of_d of_e is = absurd cc

key_other : (s : KeyValue) → (name_eq s.key syslin || name_eq s.key syslmod || name_eq s.key member || name_eq s.key parm || name_eq s.key origin) ≡ true → name_eq s.key syslib ≡ false
key_other s =
    of_five (name_eq s.key syslin) (name_eq s.key syslmod) (name_eq s.key member) (name_eq s.key parm) (name_eq s.key origin) (name_eq s.key syslib)
    (other s.key syslin refl) (other s.key syslmod refl) (other s.key member refl) (other s.key parm refl) (other s.key origin refl)

wider_link : (a b c d e : Bool) → (a || b || c || d) ≡ true → (a || b || c || d || e) ≡ true
wider_link true b c d e is = refl
wider_link false true c d e is = refl
wider_link false false true d e is = refl
wider_link false false false true e is = refl
wider_link false false false false e is = absurd cc

wider_fetch : (a b c d e : Bool) → (b || c || e) ≡ true → (a || b || c || d || e) ≡ true
wider_fetch true b c d e is = refl
wider_fetch false true c d e is = refl
wider_fetch false false true d e is = refl
wider_fetch false false false true e is = refl
wider_fetch false false false false true is = refl
wider_fetch false false false false false is = absurd cc

abbrev has : Name → Option KeyValue → Bool
has key o = option_map_or (λ (s : KeyValue). name_eq s.key key) o false

five_other : (o : Option KeyValue) → (has syslin o || has syslmod o || has member o || has parm o || has origin o) ≡ true → has syslib o ≡ false
five_other None is = refl
five_other (Some s) is = key_other s is

word_other : (c : Option Command) (word : List ℕ) → is_built_setting c word ≡ true → has_key syslib word ≡ false
word_other (Some Go) word built = five_other (key_value word) built
word_other (Some Link) word built =
    five_other (key_value word) (wider_link (has_key syslin word) (has_key syslmod word) (has_key member word) (has_key parm word) (has_key origin word) built)
word_other (Some Fetch) word built =
    five_other (key_value word) (wider_fetch (has_key syslin word) (has_key syslmod word) (has_key member word) (has_key parm word) (has_key origin word) built)
word_other _ word built = absurd cc

settings_none : (c : Option Command) (rest : List (List ℕ)) → list_all (is_built_setting c) rest ≡ true → value_in syslib rest ≡ None
settings_none c [] all = refl
settings_none c (word ∷ rest) all =
    let two = both (is_built_setting c word) (list_all (is_built_setting c) rest) all in
    rw (word_other c word two.0) (settings_none c rest two.1)

no_path : (words : List (List ℕ)) (c : Command) → is_built words ≡ true → command_of words ≡ Some c → path_of words syslib ≡ None
unfolding path_of
no_path [] c built named = absurd cc
no_path (first ∷ rest) c built named =
    rw (no_key first c named)
    (settings_none (command_of (first ∷ rest)) rest
    (both (are_built_settings (first ∷ rest)) (are_built_options (options_of (first ∷ rest))) built).0)

not_this : (words : List (List ℕ)) (dd : Name) (b : Bool) → name_eq dd syslib ≡ b → path_of words syslib ≡ None → IsSome (path_of words dd) → b ≡ false
not_this words dd true same none some =
    let there : IsSome (path_of words syslib) = subst (λ n. IsSome (path_of words n)) (name_eq-true dd syslib same) some in
    absurd cc
not_this words dd false same none some = refl

neither_is : (a b : Bool) → a ≡ false → b ≡ false → (a || b) ≡ false
neither_is false false first second = refl
neither_is true b first second = absurd cc
neither_is false true first second = absurd cc

none_of : (words : List (List ℕ)) (sets : List Set) → path_of words syslib ≡ None → All (IsReadSet words) sets → has_set syslib sets ≡ false
none_of words [] none all = refl
none_of words (x ∷ sets) none all =
    neither_is (name_eq x.dd syslib) (has_set syslib sets)
    (not_this words x.dd (name_eq x.dd syslib) refl none (All-head (IsReadSet words) x sets all).1)
    (none_of words sets none (All-tail (IsReadSet words) x sets all))

-- no set that the words name is SYSLIB
pub no_syslib : (words : List (List ℕ)) (sets : List Set) (c : Command) → is_built words ≡ true → command_of words ≡ Some c → All (IsReadSet words) sets
    → has_set syslib sets ≡ false
no_syslib words sets c built named all = none_of words sets (no_path words c built named) all

-- ---- SYSLMOD of `link`

pub link_names : (words : List (List ℕ)) → bad_word words ≡ None → command_of words ≡ Some Link → names_output words ≡ true
link_names words good named = path_asked words Link syslmod good named refl refl
