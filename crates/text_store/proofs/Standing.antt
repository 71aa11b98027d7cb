-- Where a place of a section stands among all bytes.
use Rattle.std.proofs.Common.{arith, ◌≡◌, ℕ, ◌+◌, ◌<◌, ◌≤◌, length, get_or, ◌∙◌}
use Rattle.std.proofs.lemmas.Grind.{get_or_default_zero}
use Rattle.text_store.specs.Content.{LieInContent}
use Rattle.text_store.specs.Whole.{content_of}
use Rattle.text_store.specs.Rewriting.{LiesInPiece, lies_in_piece}
use Rattle.text_store.specs.declared.whole.WholeText.{WholeText}

pub start_there : (text : WholeText) (i at n : ℕ) → LieInContent (content_of text) i at n → i < length text.starts.items
start_there text i at n lies = let piece : LiesInPiece text i at n = lies_in_piece text i at n lies in piece.there

pub start_read : (text : WholeText) (i at n x : ℕ) → LieInContent (content_of text) i at n → x ≡ get_or text.starts.items i x → x ≡ get_or text.starts.items i 0
start_read text i at n x lies read = read ∙ get_or_default_zero text.starts.items i x (start_there text i at n lies)

pub end_within : (text : WholeText) (i at n x : ℕ) → LieInContent (content_of text) i at n → x ≡ get_or text.starts.items i x → x + at + n ≤ length text.bytes.items
end_within text i at n x lies read =
    let piece : LiesInPiece text i at n = lies_in_piece text i at n lies in
    let within : get_or text.starts.items i 0 + at + n ≤ length text.bytes.items = piece.within in
    omega (arith, within, start_read text i at n x lies read)
