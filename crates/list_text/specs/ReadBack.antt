-- The statements that the cards of a member spell, and what it means that each card is read as its statement.
use Rattle.std.specs.Prelude.{◌≡◌, ℕ, true, List, [], ◌∷◌, ◌++◌, length, map, flat_map}
use Rattle.std.specs.List.{AllByRecursion}
use Rattle.le_bytes.specs.declared.name.Name.{Name}
use Rattle.ctl_cards.specs.NameTexts.{IsWritable}
use Rattle.ctl_cards.specs.Grammar.{IsStatement}
use Rattle.ctl_cards.specs.declared.statement.Statement.{Statement}
use Rattle.ctl_cards.specs.declared.statement.Statement.TheVariants.{Include, Overlay, Insert, Alias, NameOf}
use Rattle.list_text.specs.declared.relinking.Relink.{Relink}
use Rattle.list_text.specs.declared.relinking.RelinkSegment.{RelinkSegment}
use Rattle.list_text.specs.Statements.{card_of}

-- `SYSLMOD`, the data set that holds the member
abbrev pub syslmod_name : Name
syslmod_name = record { 0 = 226 ∷ 232 ∷ 226 ∷ 211 ∷ 212 ∷ 214 ∷ 196 ∷ 64 ∷ [] }

abbrev pub include_statement : Name → Statement
include_statement member = Include (record { dd = syslmod_name; members = member ∷ [] } ∷ [])

abbrev pub insert_statement : Name → Statement
insert_statement section = Insert (section ∷ [])

abbrev pub alias_statement : Name → Statement
alias_statement name = Alias (name ∷ [])

abbrev pub segment_statements : RelinkSegment → List Statement
segment_statements segment = Overlay segment.symbol segment.region ∷ map insert_statement segment.inserts

-- the statements that link a member again, in their order
abbrev pub relink_statements : Relink → List Statement
relink_statements s =
    include_statement s.member ∷ flat_map segment_statements s.segments
    ++ map alias_statement s.aliases ++ NameOf s.member true ∷ []

-- the names of a segment have eight bytes, as all names have
pub record HasSegmentNames (segment : RelinkSegment) : Type 0 where
  pub symbol_is : length segment.symbol.0 ≡ 8
  pub inserts_are : AllByRecursion (λ (n : Name). length n.0 ≡ 8) segment.inserts

-- all names have eight bytes
pub record HasNames (s : Relink) : Type 0 where
  pub member_is : length s.member.0 ≡ 8
  pub aliases_are : AllByRecursion (λ (n : Name). length n.0 ≡ 8) s.aliases
  pub segments_are : AllByRecursion HasSegmentNames s.segments

-- statements can write the names of a segment
pub record HasWritableSegment (segment : RelinkSegment) : Type 0 where
  pub symbol_is : IsWritable segment.symbol
  pub inserts_are : AllByRecursion IsWritable segment.inserts

-- statements can write all of the names
pub record HasWritableNames (s : Relink) : Type 0 where
  pub member_is : IsWritable s.member
  pub aliases_are : AllByRecursion IsWritable s.aliases
  pub segments_are : AllByRecursion HasWritableSegment s.segments

-- the card of a text has 80 bytes and is read as the statement, whatever cards follow
pub record IsCardOf (text : List ℕ) (s : Statement) : Type 0 where
  pub size_is : length (card_of text) ≡ 80
  pub statement_is : (more : List (List ℕ)) → IsStatement (card_of text ∷ more) s 1

-- each of the texts is that of the statement at its place
abbrev pub AreCardsOf : List (List ℕ) → List Statement → Type 0
AreCardsOf [] [] = Unit {0}
AreCardsOf [] (s ∷ statements) = ⊥
AreCardsOf (text ∷ texts) [] = ⊥
AreCardsOf (text ∷ texts) (s ∷ statements) = IsCardOf text s × AreCardsOf texts statements
