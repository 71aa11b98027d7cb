-- What a text held whole has as its content, and what a loan leaves.
use Rattle.std.specs.Prelude.{ℕ, ◌+◌, Bool, true, ◌&&◌, if◌then◌else◌, nat_le, List, [], ◌∷◌, length, get_or, slice_range}
use Rattle.std.specs.Vec.{with_items_from}
use Rattle.text_store.specs.declared.whole.WholeText.{WholeText}

-- each is at most the next, and the last at most the end
abbrev pub are_rising : List ℕ → ℕ → Bool
are_rising [] end = true
are_rising (start ∷ starts) end = nat_le start (get_or starts 0 end) && are_rising starts end

-- the pieces of a list that begin at these places, each up to the next, and the last up to the end
abbrev pub pieces : List ℕ → List ℕ → ℕ → List (List ℕ)
pieces xs [] end = []
pieces xs (start ∷ starts) end = slice_range xs start (get_or starts 0 end) ∷ pieces xs starts end

-- the bytes of each section, from where it starts up to where the next does, given that the starts rise
unfoldable pub content_of : WholeText → List (List ℕ)
content_of text =
    if are_rising text.starts.items (length text.bytes.items) then pieces text.bytes.items text.starts.items (length text.bytes.items) else []

-- the text with these bytes in section i, from a place on
abbrev pub whole_with : WholeText → ℕ → ℕ → List ℕ → WholeText
whole_with text i at bytes = record text { bytes = with_items_from text.bytes (get_or text.starts.items i 0 + at) bytes }
