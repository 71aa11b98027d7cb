-- Texts put into sections one after the other.
use Rattle.std.specs.Prelude.{ℕ, List}
use Rattle.sym_mod.specs.declared.program.Text.{Text}
use Rattle.text_store.specs.Content.{with_bytes}

-- the content with one text in its place
abbrev pub with_text : List (List ℕ) → Text → List (List ℕ)
with_text content t = with_bytes content t.section t.offset t.bytes
