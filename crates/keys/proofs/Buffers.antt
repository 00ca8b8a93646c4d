-- Bytes at the front of a buffer. Assumes nothing.
use Rattle.std.proofs.Common.{◌≡◌, ℕ, ◌+◌, ◌≤◌, List, ◌++◌, length, take, drop, sym, refl, ap, ◌∙◌, arith}
use Rattle.std.proofs.lemmas.List.{append_assoc, length-append}
use Rattle.std.proofs.lemmas.Grind.{common_steps}
use Rattle.std.proofs.lemmas.Slice.{drop-append-drop}
use Rattle.keys.specs.Bytes.{overlaid}

-- up to its end, what was written stands behind what was there
pub overlaid-take : (buffer bytes : List ℕ) (at : ℕ) → at ≤ length buffer → take (at + length bytes) (overlaid buffer at bytes) ≡ take at buffer ++ bytes
overlaid-take buffer bytes at h = grind (arith, common_steps)

pub overlaid-length : (buffer bytes : List ℕ) (at : ℕ) → at + length bytes ≤ length buffer → length (overlaid buffer at bytes) ≡ length buffer
overlaid-length buffer bytes at h = grind (arith, common_steps)

-- behind its end, the buffer is as it was
pub overlaid-drop : (buffer bytes : List ℕ) (at n : ℕ) → at ≤ length buffer → at + length bytes ≤ n → drop n (overlaid buffer at bytes) ≡ drop n buffer
overlaid-drop buffer bytes at n h l =
    let k : length (take at buffer ++ bytes) ≡ at + length bytes = grind (arith, common_steps) in
    ap (drop n) (sym (append_assoc (take at buffer) bytes (drop (at + length bytes) buffer))) ∙ drop-append-drop (at + length bytes) buffer (take at buffer ++ bytes) n l k

-- bytes written behind others are one writing of both
pub overlaid_next : (buffer xs ys : List ℕ) (at n : ℕ) → at ≤ length buffer → n ≡ at + length xs
    → overlaid (overlaid buffer at xs) n ys ≡ overlaid buffer at (xs ++ ys)
overlaid_next buffer xs ys at n h e = grind (arith, append_assoc, length-append, overlaid-take, overlaid-drop)

pub overlaid_more : (buffer xs ys : List ℕ) (at : ℕ) → at ≤ length buffer
    → overlaid (overlaid buffer at xs) (at + length xs) ys ≡ overlaid buffer at (xs ++ ys)
overlaid_more buffer xs ys at h = overlaid_next buffer xs ys at (at + length xs) h refl
