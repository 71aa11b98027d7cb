-- The blocks of a directory, entry by entry.
use Rattle.std.proofs.Common.{◌≡◌, ℕ, ◌≤◌, List, [], ◌∷◌, ◌++◌, length, drop, map, refl, sym, ap, ◌∙◌}
use Rattle.std.proofs.lemmas.List.{drop_all}
use Rattle.pds_directory.specs.declared.entry.Entry.{Entry}
use Rattle.pds_lib.specs.Contents.{Contents, entries_of}
use Rattle.pds_image.specs.Spelling.{block_bytes, blocks_of, closing}
use Rattle.pds_image.specs.Image.{spelled_entry, directory_bytes}

block_ends : (begun : List ℕ) → block_bytes begun ≡ blocks_of begun []
unfolding blocks_of
block_ends begun = refl

pub directory_is : (lib : Contents) (es : List Entry) (i : ℕ) (full begun full2 begun2 out : List ℕ) → length es ≤ i → es ≡ entries_of lib
    → full ++ blocks_of begun (map (spelled_entry lib) (drop i es) ++ closing ∷ []) ≡ blocks_of [] (map (spelled_entry lib) es ++ closing ∷ [])
    → ((more : List (List ℕ)) → full2 ++ blocks_of begun2 more ≡ full ++ blocks_of begun (closing ∷ more))
    → out ≡ full2 ++ block_bytes begun2 → out ≡ directory_bytes lib
directory_is lib es i full begun full2 begun2 out past these so_far last block =
    block ∙ ap (λ (ys : List ℕ). full2 ++ ys) (block_ends begun2) ∙ last []
    ∙ ap (λ (ys : List Entry). full ++ blocks_of begun (map (spelled_entry lib) ys ++ closing ∷ [])) (sym (drop_all i es past))
    ∙ so_far ∙ ap (λ (ys : List Entry). blocks_of [] (map (spelled_entry lib) ys ++ closing ∷ [])) these
