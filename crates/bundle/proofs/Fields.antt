-- Fields and entries of a bundle. Assumes nothing.
use Rattle.std.proofs.Common.{◌≡◌, ℕ, ◌+◌, ◌*◌, ◌<◌, ◌≤◌, List, ◌∷◌, ◌++◌, length, get_or, take, drop, Ok, Err, sym, refl, ap, ◌∙◌, zero-add, arith}
use Rattle.std.proofs.lemmas.Bool.{lt-ltb, le-ltb}
use Rattle.std.proofs.lemmas.List.{drop_at, drop_more, length-drop}
use Rattle.refusals.specs.declared.fault.BundleFault.{BundleFault}
use Rattle.refusals.specs.declared.fault.FaultKind.TheVariants.{EndOfBuffer, InvalidLength}
use Rattle.refusals.specs.Limits.{max_message}
use Rattle.keys.specs.Bytes.{big_endian}
use Rattle.bundle.specs.Layout.{field, fault, prefix, opening, closing, entry, max_prefix, field_written}

-- two bytes at a place
pub prefix_at : (bs : List ℕ) (at : ℕ) → at + 2 ≤ length bs → prefix (drop at bs) ≡ get_or bs at 0 * 256 + get_or bs (at + 1) 0
prefix_at bs at h =
    let a = drop_more bs at 0 (omega arith) in
    let b = drop_more bs (at + 1) 0 (omega arith) in
    ap prefix (a ∙ ap (λ z. get_or bs at 0 ∷ z) b) ∙ ap (λ z. z * 256 + get_or bs (at + 1) 0) (zero-add (get_or bs at 0))

pub prefix_again : (n : ℕ) (rest : List ℕ) → n ≤ max_prefix → prefix (big_endian 2 n ++ rest) ≡ n
prefix_again n rest h = omega arith

pub field_short : (limit at : ℕ) (bs : List ℕ) → length bs < 2 → field limit at bs ≡ Err (fault EndOfBuffer at)
unfolding field
field_short limit at bs h = rw (lt-ltb (length bs) 2 h) refl

pub field_large : (limit at : ℕ) (bs : List ℕ) → 2 ≤ length bs → limit < prefix bs → field limit at bs ≡ Err (fault InvalidLength at)
unfolding field
field_large limit at bs h k = rw (le-ltb (length bs) 2 h, lt-ltb limit (prefix bs) k) refl

-- behind a length within its limit there are too few bytes
pub field_cut : (limit at : ℕ) (bs : List ℕ) → 2 ≤ length bs → prefix bs ≤ limit → length bs < 2 + prefix bs → field limit at bs ≡ Err (fault EndOfBuffer (at + 2))
unfolding field
field_cut limit at bs h k l =
    let d = length-drop 2 bs in
    rw (le-ltb (length bs) 2 h, le-ltb limit (prefix bs) k, lt-ltb (length (drop 2 bs)) (prefix bs) (omega arith)) refl

-- or enough
pub field-whole : (limit at : ℕ) (bs : List ℕ) → 2 ≤ length bs → prefix bs ≤ limit → 2 + prefix bs ≤ length bs → field limit at bs ≡ Ok (take (prefix bs) (drop 2 bs))
unfolding field
field-whole limit at bs h k l =
    let d = length-drop 2 bs in
    rw (le-ltb (length bs) 2 h, le-ltb limit (prefix bs) k, le-ltb (length (drop 2 bs)) (prefix bs) (omega arith)) refl

-- both, where the length and the bytes behind it have names
module _ (limit at n : ℕ) (bs rest : List ℕ) (e : bs ≡ big_endian 2 n ++ rest) (h : n ≤ limit) (k : n ≤ max_prefix) where
  prefix_is : prefix bs ≡ n
  prefix_is = ap prefix e ∙ prefix_again n rest k

  length-is : length bs ≡ 2 + length rest
  length-is = ap length e ∙ omega arith

  pub cut_behind : length rest < n → field limit at bs ≡ Err (fault EndOfBuffer (at + 2))
  cut_behind l = let p = prefix_is in let s = length-is in field_cut limit at bs (omega arith) (omega arith) (omega arith)

  pub whole_behind : n ≤ length rest → field limit at bs ≡ Ok (take n rest)
  whole_behind l =
      let p = prefix_is in
      let s = length-is in
      field-whole limit at bs (omega arith) (omega arith) (omega arith) ∙ (λ i. Ok (take (p i) (drop 2 (e i))))

pub entry_first : (at : ℕ) (bs : List ℕ) (f : BundleFault) → Err f ≡ field max_message at bs → Err f ≡ entry at bs
unfolding entry
entry_first at bs f e = ap (opening at bs) e

-- behind its message an entry is what its certificate is
opened : (at next : ℕ) (bs m rest : List ℕ) → Ok m ≡ field max_message at bs → bs ≡ field_written m ++ rest → next ≡ at + 2 + length m
    → closing m next (field max_prefix next rest) ≡ entry at bs
unfolding entry
opened at next bs m rest e w n =
    (λ i. closing m (n i) (field max_prefix (n i) (sym (ap (drop (2 + length m)) w ∙ drop_at (field_written m) rest (2 + length m) (omega arith)) i)))
    ∙ ap (opening at bs) e

pub entry_second : (at next : ℕ) (bs m rest : List ℕ) (f : BundleFault) → Ok m ≡ field max_message at bs → bs ≡ field_written m ++ rest → next ≡ at + 2 + length m
    → Err f ≡ field max_prefix next rest → Err f ≡ entry at bs
entry_second at next bs m rest f e w n k = ap (closing m next) k ∙ opened at next bs m rest e w n

pub entry_whole : (at next place : ℕ) (bs m rest c : List ℕ) → Ok m ≡ field max_message at bs → bs ≡ field_written m ++ rest → next ≡ at + 2 + length m
    → Ok c ≡ field max_prefix next rest → place ≡ next + 2 → Ok (record { message = m; place = place; certificate = c }) ≡ entry at bs
entry_whole at next place bs m rest c e w n k p =
    ap (λ (z : ℕ). Ok (record { message = m; place = z; certificate = c })) p ∙ ap (closing m next) k ∙ opened at next bs m rest e w n
