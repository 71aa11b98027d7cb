-- What good words give.
use Rattle.std.proofs.Common.{ℕ, ◌≡◌, Bool, true, false, not, ◌||◌, ◌⊎◌, inl, inr, List, [], ◌∷◌, ◌++◌, length, ◌+◌, Option, Some, None, option_map, IsSome, refl, ap, subst, find, is_some, codes, if◌then◌else◌}
use Rattle.std.specs.List.{list_any}
use Rattle.std.specs.Option.{option_map_or, option_or, option_and_then}
use Rattle.std.proofs.lemmas.Slice.Eq.{bytes_eq-Decides}
use Rattle.le_bytes.specs.Names.{name_eq, name_of_text}
use Rattle.le_bytes.specs.declared.name.Name.{Name}
use Rattle.le_bytes.specs.declared.word_what.WordWhat.TheVariants.{NotKeyValue, Repeated, NotUsed, Excluded, BadValue, Missing}
use Rattle.command_words.specs.Keys.{member, is_reserved}
use Rattle.command_words.specs.Word.{KeyValue, key_value, is_given, value_in}
use Rattle.command_words.specs.Table.{command_named, is_used}
use Rattle.command_words.specs.Judged.{is_excluded, is_good_value, setting_fault, word_fault, bad_setting, asked_keys, is_asked, missing_key, bad_after, bad_word}
use Rattle.command_words.specs.Meaning.{command_of, member_of, path_of}
use Rattle.command_words.specs.declared.command.Command.{Command}
use Rattle.command_words.specs.declared.command.Command.TheVariants.{Link, Go, List as ListCommand, Fetch, Replay, Gen, Migrate, Ldr, Ahead, Tasks}
use Rattle.std.specs.Str.{bytes_eq}
use Rattle.command_words.specs.declared.judging.BadWord.{BadWord}

pub name_eq-true : (m n : Name) → name_eq m n ≡ true → m ≡ n
name_eq-true m n same = ap (λ (bytes : List ℕ). let name : Name = record { 0 = bytes } in name) ((bytes_eq-Decides m.0 n.0).0 same)

-- ---- each asked key is given

found_none : (given : Bool) (key : Name) (rest : Option Name) → (if not given then Some key else rest) ≡ None → (given ≡ true) × (rest ≡ None)
found_none true key rest none = (refl, none)
found_none false key rest none = absurd cc

one_of : (first more : Bool) → (first || more) ≡ true → (first ≡ true) ⊎ (more ≡ true)
one_of true more h = inl refl
one_of false more h = inr h

pub given_from_none : (words : List (List ℕ)) (keys : List Name) (key : Name) → find (λ k. not (is_given k words)) keys ≡ None
    → list_any (λ known. name_eq known key) keys ≡ true → is_given key words ≡ true
given_from_none words [] key none asked = absurd cc
given_from_none words (k ∷ keys) key none asked =
    let here = found_none (is_given k words) k (find (λ k. not (is_given k words)) keys) none in
    elim (one_of (name_eq k key) (list_any (λ known. name_eq known key) keys) asked) [
      | inl same ↦ subst (λ (k : Name). is_given k words ≡ true) (name_eq-true k key same) here.0
      | inr later ↦ given_from_none words keys key here.1 later
    ]

-- ---- a given key has a value

value_here : (same more : Bool) (value : List ℕ) (rest : Option (List ℕ)) → (same || more) ≡ true → (more ≡ true → IsSome rest)
    → IsSome (if same then Some value else rest)
value_here true more value rest given later = refl
value_here false more value rest given later = later given

value_of_first : (key : Name) (first : Option KeyValue) (more : Bool) (rest : Option (List ℕ))
    → (option_map_or (λ s. name_eq s.key key) first false || more) ≡ true → (more ≡ true → IsSome rest)
    → IsSome (if option_map_or (λ s. name_eq s.key key) first false then option_map (λ s. s.value) first else rest)
value_of_first key None more rest given later = later given
value_of_first key (Some s) more rest given later = value_here (name_eq s.key key) more s.value rest given later

pub value_given : (key : Name) (words : List (List ℕ)) → is_given key words ≡ true → IsSome (value_in key words)
value_given key [] given = absurd cc
value_given key (word ∷ words) given =
    value_of_first key (key_value word) (is_given key words) (value_in key words) given (value_given key words)

-- ---- the value of a good word is good

good_from_none : (repeated used excluded good : Bool)
    → (if repeated then Some Repeated else if not used then Some NotUsed else if excluded then Some Excluded
    else if not good then Some BadValue else None) ≡ None → good ≡ true
good_from_none repeated used excluded true none = refl
good_from_none true used excluded false none = absurd cc
good_from_none false false excluded false none = absurd cc
good_from_none false true true false none = absurd cc
good_from_none false true false false none = absurd cc

good_first : (command : Command) (before : List (List ℕ)) (first : Option KeyValue) (key : Name) (value : List ℕ) (rest : Option (List ℕ))
    → option_map_or (setting_fault command before) first (Some NotKeyValue) ≡ None
    → (rest ≡ Some value → is_good_value command key value ≡ true)
    → (if option_map_or (λ s. name_eq s.key key) first false then option_map (λ s. s.value) first else rest) ≡ Some value
    → is_good_value command key value ≡ true
good_first command before None key value rest none later is = absurd cc
good_first command before (Some s) key value rest none later is =
    let good : is_good_value command s.key s.value ≡ true =
    good_from_none (is_given s.key before) (is_used command s.key) (is_excluded s.key before) (is_good_value command s.key s.value) none in
    good_here command s.key key s.value value rest (name_eq s.key key) (name_eq-true s.key key) good later is
  where
    good_here : (command : Command) (k key : Name) (v value : List ℕ) (rest : Option (List ℕ)) (same : Bool) → (same ≡ true → k ≡ key)
        → is_good_value command k v ≡ true → (rest ≡ Some value → is_good_value command key value ≡ true)
        → (if same then Some v else rest) ≡ Some value → is_good_value command key value ≡ true
    good_here command k key v value rest true equal good later is =
        let one : k ≡ key = equal refl in let other : v ≡ value = cc in
        subst (λ (x : Name). is_good_value command x value ≡ true) one (subst (λ (x : List ℕ). is_good_value command k x ≡ true) other good)
    good_here command k key v value rest false equal good later is = later is

none_left : {X Y : Type 0} (f : X → Y) (o : Option X) (p : Option Y) → option_or (option_map f o) p ≡ None → (o ≡ None) × (p ≡ None)
none_left f None p none = (refl, none)
none_left f (Some x) p none = absurd cc

pub good_value : (command : Command) (before rest : List (List ℕ)) (key : Name) (value : List ℕ) → bad_setting command before rest ≡ None
    → value_in key rest ≡ Some value → is_good_value command key value ≡ true
unfolding word_fault
good_value command before [] key value none is = absurd cc
good_value command before (word ∷ rest) key value none is =
    let parts = none_left (λ what. let bad : BadWord = record { word = length before + 1; what = what } in bad)
    (word_fault command before word) (bad_setting command (before ++ word ∷ []) rest) none in
    good_first command before (key_value word) key value (value_in key rest) parts.0
    (good_value command (before ++ word ∷ []) rest key value parts.1) is

-- ---- good words as a whole

map_or_none : {X : Type 0} (f : X → Option BadWord) (o : Option X) (bad : BadWord) (x : X) → option_map_or f o (Some bad) ≡ None → o ≡ Some x → f x ≡ None
map_or_none f None bad x none is = absurd cc
map_or_none f (Some y) bad x none is = let same : y ≡ x = cc in rw (← same) none

or_none : {X : Type 0} (o p : Option X) → option_or o p ≡ None → (o ≡ None) × (p ≡ None)
or_none None p none = (refl, none)
or_none (Some x) p none = absurd cc

map_none : {X Y : Type 0} (f : X → Y) (o : Option X) → option_map f o ≡ None → o ≡ None
map_none f None none = refl
map_none f (Some x) none = absurd cc

pub record IsGood (command : Command) (first : List ℕ) (rest : List (List ℕ)) : Type 0 where
  pub settings : bad_setting command (first ∷ []) rest ≡ None
  pub asked : missing_key command (first ∷ rest) ≡ None

good_words : (first : List ℕ) (rest : List (List ℕ)) (command : Command) → bad_word (first ∷ rest) ≡ None → command_named first ≡ Some command
    → IsGood command first rest
unfolding bad_word
good_words first rest command none named =
    let after = map_or_none (λ command. bad_after command first rest) (command_named first) _ command none named in
    let parts = or_none (bad_setting command (first ∷ []) rest) (option_map (λ key. let bad : BadWord = record { word = length rest + 2; what = Missing key } in bad) (missing_key command (first ∷ rest))) after in
    record { settings = parts.0; asked = map_none (λ key. let bad : BadWord = record { word = length rest + 2; what = Missing key } in bad) (missing_key command (first ∷ rest)) parts.1 }

value_asked : (words : List (List ℕ)) (command : Command) (key : Name) → missing_key command words ≡ None → is_asked command words key ≡ true
    → IsSome (value_in key words)
unfolding missing_key
value_asked words command key none asked = value_given key words (given_from_none words (asked_keys command words) key none asked)

-- a data definition name that the words have to give has a path
pub path_asked : (words : List (List ℕ)) (command : Command) (dd : Name) → bad_word words ≡ None → command_of words ≡ Some command
    → is_asked command words dd ≡ true → is_reserved dd ≡ false → IsSome (path_of words dd)
unfolding path_of
path_asked [] command dd none named asked free = absurd cc
path_asked (first ∷ rest) command dd none named asked free =
    rw free (value_asked (first ∷ rest) command dd (good_words first rest command none named).asked asked)

-- ---- the value of MEMBER

named_step : (first text : List ℕ) (this : Command) (others : Option Command) (command : Command) → key_value text ≡ None
    → (others ≡ Some command → key_value first ≡ None) → (if bytes_eq first text then Some this else others) ≡ Some command → key_value first ≡ None
named_step first text this others command plain later is = by_test (bytes_eq first text) ((bytes_eq-Decides first text).0) is
  where
    by_test : (same : Bool) → (same ≡ true → first ≡ text) → (if same then Some this else others) ≡ Some command → key_value first ≡ None
    by_test true equal is = rw (equal refl) plain
    by_test false equal is = later is

pub no_key : (first : List ℕ) (command : Command) → command_named first ≡ Some command → key_value first ≡ None
unfolding command_named key_value
no_key first command named =
    named_step first (codes "link") Link _ command refl (named_step first (codes "go") Go _ command refl
    (named_step first (codes "list") ListCommand _ command refl (named_step first (codes "fetch") Fetch _ command refl
    (named_step first (codes "replay") Replay _ command refl (named_step first (codes "gen") Gen _ command refl
    (named_step first (codes "migrate") Migrate _ command refl (named_step first (codes "ldr") Ldr _ command refl
    (named_step first (codes "ahead") Ahead _ command refl (named_step first (codes "tasks") Tasks None command refl
    (λ none. absurd cc)))))))))) named

then_some : (f : List ℕ → Option Name) (o : Option (List ℕ)) → IsSome o → ((v : List ℕ) → o ≡ Some v → is_some (f v) ≡ true) → IsSome (option_and_then f o)
then_some f None some good = absurd cc
then_some f (Some v) some good = good v refl

-- a member that the words have to name is named
pub member_asked : (words : List (List ℕ)) (command : Command) → bad_word words ≡ None → command_of words ≡ Some command
    → is_asked command words member ≡ true → IsSome (member_of words)
unfolding member_of
member_asked [] command none named asked = absurd cc
member_asked (first ∷ rest) command none named asked =
    let good = good_words first rest command none named in
    let plain = no_key first command named in
    then_some name_of_text (value_in member (first ∷ rest)) (value_asked (first ∷ rest) command member good.asked asked)
    (λ v is. good_value command (first ∷ []) rest member v good.settings (rw plain at is))
