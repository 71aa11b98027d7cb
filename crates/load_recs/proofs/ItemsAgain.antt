-- A symbol item that was written is read as the same item.
use Rattle.std.proofs.Common.{◌≡◌, ℕ, ◌^◌, ◌<◌, false, List, [], ◌∷◌, length, refl, sym, ap, arith}
use Rattle.byteorder.specs.Numbers.{big_number-reads_back}
use Rattle.load_recs.specs.declared.items.SymbolKind.{SymbolKind}
use Rattle.load_recs.specs.declared.items.SymbolKind.TheVariants.{Sd, Er, Lr, Pc, Cm, Pr, Null, Wx}
use Rattle.load_recs.specs.declared.items.SymbolItem.{SymbolItem}
use Rattle.load_recs.specs.Items.{symbol_of, is_wrong_symbol}
use Rattle.load_recs.specs.ItemBytes.{symbol_bytes, SuitsKind, IsSymbol}

-- what holds of each list of eight holds of a list of length 8
on_eight : (P : List ℕ → Type 0) → ((a b c d e f g h : ℕ) → P (a ∷ b ∷ c ∷ d ∷ e ∷ f ∷ g ∷ h ∷ [])) → (xs : List ℕ) → length xs ≡ 8 → P xs
on_eight P each [] n = absurd (omega arith)
on_eight P each (a ∷ []) n = absurd (omega arith)
on_eight P each (a ∷ b ∷ []) n = absurd (omega arith)
on_eight P each (a ∷ b ∷ c ∷ []) n = absurd (omega arith)
on_eight P each (a ∷ b ∷ c ∷ d ∷ []) n = absurd (omega arith)
on_eight P each (a ∷ b ∷ c ∷ d ∷ e ∷ []) n = absurd (omega arith)
on_eight P each (a ∷ b ∷ c ∷ d ∷ e ∷ f ∷ []) n = absurd (omega arith)
on_eight P each (a ∷ b ∷ c ∷ d ∷ e ∷ f ∷ g ∷ []) n = absurd (omega arith)
on_eight P each (a ∷ b ∷ c ∷ d ∷ e ∷ f ∷ g ∷ h ∷ []) n = each a b c d e f g h
on_eight P each (a ∷ b ∷ c ∷ d ∷ e ∷ f ∷ g ∷ h ∷ i ∷ rest) n = absurd (omega arith)

abbrev item_named : List ℕ → SymbolKind → ℕ → ℕ → ℕ → SymbolItem
item_named name kind address segment len =
    record { name = record { 0 = name }; kind = kind; address = address; segment = segment; length = len }

abbrev IsAgain : SymbolKind → ℕ → ℕ → ℕ → List ℕ → Type 0
IsAgain kind address segment len name =
    address < 2 ^ 24 → len < 2 ^ 24 → SuitsKind kind (item_named name kind address segment len)
    → symbol_of (symbol_bytes (item_named name kind address segment len)) ≡ item_named name kind address segment len

again_by : (kind : SymbolKind) (address segment len : ℕ) (a b c d e f g h : ℕ) → IsAgain kind address segment len (a ∷ b ∷ c ∷ d ∷ e ∷ f ∷ g ∷ h ∷ [])
again_by Sd address segment len a b c d e f g h below short suits = rw (big_number-reads_back 3 address [] below, big_number-reads_back 3 len [] short) refl
again_by Er address segment len a b c d e f g h below short suits = rw (big_number-reads_back 3 address [] below, big_number-reads_back 3 len [] short) refl
again_by Cm address segment len a b c d e f g h below short suits = rw (big_number-reads_back 3 address [] below, big_number-reads_back 3 len [] short) refl
again_by Pr address segment len a b c d e f g h below short suits = rw (big_number-reads_back 3 address [] below, big_number-reads_back 3 len [] short) refl
again_by Null address segment len a b c d e f g h below short suits = rw (big_number-reads_back 3 address [] below, big_number-reads_back 3 len [] short) refl
again_by Wx address segment len a b c d e f g h below short suits = rw (big_number-reads_back 3 address [] below, big_number-reads_back 3 len [] short) refl
again_by Lr address segment len a b c d e f g h below short suits = rw (big_number-reads_back 3 address [] below, big_number-reads_back 2 len [] suits.1) refl
again_by Pc address segment len a b c d e f g h below short suits =
    rw (big_number-reads_back 3 address [] below, big_number-reads_back 3 len [] short)
    (ap (λ name. item_named name Pc address segment len) (sym suits))

pub symbol_again : (item : SymbolItem) → IsSymbol item → symbol_of (symbol_bytes item) ≡ item
symbol_again item is =
    on_eight (IsAgain item.kind item.address item.segment item.length) (again_by item.kind item.address item.segment item.length)
    item.name.0 is.name is.address is.length_fits is.suits

abbrev IsAccepted : SymbolKind → ℕ → ℕ → ℕ → List ℕ → Type 0
IsAccepted kind address segment len name =
    SuitsKind kind (item_named name kind address segment len) → is_wrong_symbol (symbol_bytes (item_named name kind address segment len)) ≡ false

accepted_by : (kind : SymbolKind) (address segment len : ℕ) (a b c d e f g h : ℕ) → IsAccepted kind address segment len (a ∷ b ∷ c ∷ d ∷ e ∷ f ∷ g ∷ h ∷ [])
accepted_by Sd address segment len a b c d e f g h suits = refl
accepted_by Er address segment len a b c d e f g h suits = suits
accepted_by Cm address segment len a b c d e f g h suits = refl
accepted_by Pr address segment len a b c d e f g h suits = rw suits refl
accepted_by Null address segment len a b c d e f g h suits = refl
accepted_by Wx address segment len a b c d e f g h suits = suits
accepted_by Lr address segment len a b c d e f g h suits = suits.0
accepted_by Pc address segment len a b c d e f g h suits = refl

pub symbol_accepted : (item : SymbolItem) → IsSymbol item → is_wrong_symbol (symbol_bytes item) ≡ false
symbol_accepted item is =
    on_eight (IsAccepted item.kind item.address item.segment item.length) (accepted_by item.kind item.address item.segment item.length)
    item.name.0 is.name is.suits
