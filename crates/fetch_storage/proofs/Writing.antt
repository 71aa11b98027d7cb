-- Bytes written into one of several vectors.
use Rattle.std.proofs.Common.{arith, ◌≡◌, ℕ, ◌+◌, ◌%◌, ◌^◌, ◌≤◌, List, length, map, take, drop, get_or, slice_get, slice_set, slice_range, sym, ◌∙◌, ap, subst, Some}
use Rattle.std.specs.Vec.{with_items_from}
use Rattle.std.specs.Global.{Vec}
use Rattle.std.proofs.lemmas.Grind.{common_steps}
use Rattle.byteorder.specs.Endian.{big_number, big_bytes}
use Rattle.text_store.specs.Content.{section_of, with_bytes, LieInContent}
use Rattle.fetch_storage.specs.Kept.{shifted_in}
use Rattle.fetch_storage.proofs.Adding.{length_big}
use Rattle.fetch_storage.proofs.Vectors.{found_there, rewritten_there, room_there}

abbrev pub contents : List (Vec ℕ) → List (List ℕ)
contents rooms = map (λ room. room.items) rooms

pub wrote : (rooms : List (Vec ℕ)) (i at : ℕ) (bytes copied : List ℕ) (v : Vec ℕ) → LieInContent (contents rooms) i at (length bytes) → v ≡ get_or rooms i v → copied ≡ bytes
    → contents (slice_set rooms i (with_items_from (get_or rooms i v) at copied)) ≡ with_bytes (contents rooms) i at bytes
wrote rooms i at bytes copied v inside is same =
    let found : slice_get rooms i ≡ Some v = found_there rooms i at (length bytes) v inside is in
    ap (λ u. contents (slice_set rooms i (with_items_from u at copied))) (sym is)
    ∙ (ap (λ bs. contents (slice_set rooms i (with_items_from v at bs))) same ∙ rewritten_there rooms i at bytes v inside found)

ranged : (xs : List ℕ) (at n : ℕ) → at + n ≤ length xs → slice_range xs at (at + n) ≡ take n (drop at xs)
ranged xs at n fits = grind (arith, common_steps)

taken : (xs : List ℕ) (at n : ℕ) → at + n ≤ length xs → length (take n (drop at xs)) ≡ n
taken xs at n fits = grind (arith, common_steps)

pub shifted : (rooms : List (Vec ℕ)) (i at n added : ℕ) (field new : List ℕ) (v : Vec ℕ) → LieInContent (contents rooms) i at n → v ≡ get_or rooms i v
    → field ≡ slice_range (get_or rooms i v).items at (at + n) → new ≡ big_bytes (length field) ((big_number (length field) field + added) % 256 ^ length field)
    → contents (slice_set rooms i (with_items_from (get_or rooms i v) at new)) ≡ shifted_in (contents rooms) i at n added
shifted rooms i at n added field new v inside is lent written =
    let found : slice_get rooms i ≡ Some v = found_there rooms i at n v inside is in
    let there : section_of (contents rooms) i ≡ v.items = room_there rooms i v found in
    let fits : at + n ≤ length v.items = subst (λ ys. at + n ≤ length ys) there inside.inside in
    let value : field ≡ take n (drop at (section_of (contents rooms) i)) =
    lent ∙ (ap (λ u. slice_range u.items at (at + n)) (sym is) ∙ (ranged v.items at n fits ∙ ap (λ ys. take n (drop at ys)) (sym there))) in
    let size : length field ≡ n = ap length (lent ∙ (ap (λ u. slice_range u.items at (at + n)) (sym is) ∙ ranged v.items at n fits)) ∙ taken v.items at n fits in
    let bytes : new ≡ big_bytes n ((big_number n (take n (drop at (section_of (contents rooms) i))) + added) % 256 ^ n) =
    written ∙ (ap (λ k. big_bytes k ((big_number k field + added) % 256 ^ k)) size ∙ ap (λ ys. big_bytes n ((big_number n ys + added) % 256 ^ n)) value) in
    let long : length (big_bytes n ((big_number n (take n (drop at (section_of (contents rooms) i))) + added) % 256 ^ n)) ≡ n = length_big n _ in
    wrote rooms i at (big_bytes n ((big_number n (take n (drop at (section_of (contents rooms) i))) + added) % 256 ^ n)) new v
    (subst (λ k. LieInContent (contents rooms) i at k) (sym long) inside) is bytes
