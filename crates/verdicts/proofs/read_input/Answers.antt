use Rattle.std.proofs.Common.{◌≡◌, ℕ, zero, suc, ◌+◌, ◌-◌, ◌<◌, ◌≤◌, List, ◌++◌, length, take, drop, Some, None, Option, IfSome, append-nil, ⊎_elim, refl, sym, ap, ◌∙◌, arith}
use Rattle.std.proofs.KnownBytes.{Consumes-trans}
use Rattle.std.proofs.Math.Seq.{take-append-add}
use Rattle.std.proofs.lemmas.List.{take-append-le, length-take-le, length-drop, take_at, take_all}
use Rattle.std.proofs.lemmas.Bool.{cases_lt}
use Rattle.std.proofs.lemmas.Slice.{take-put_mid_below}
use Rattle.std.specs.Io.KnownBytes.{Consumes, IsAtEnd}
use borrow.Rule.Slice.PartMut.{put_mid, mid_of, post_of, same_len_mid}
use Rattle.verdicts.specs.declared.TheConstants.{ROOM}
use Rattle.verdicts.proofs.read_input.Goals as goal
use Rattle.verdicts.proofs.read_input.Goals.{else-loop-test, then-loop-test+in_ok-more+then-more-eq0}

-- what stands in front once the rest of a room was read into
front : (room part : List ℕ) (len left more : ℕ) → len ≤ length room → more ≤ length part
    → take (len + more) (put_mid len left room part) ≡ take len room ++ take more part
front room part len left more within some =
    let size : length (take len room) ≡ len = length-take-le len room within in
    ap (λ n. take (n + more) (put_mid len left room part)) (sym size) ∙ take-append-add (take len room) (part ++ post_of len left room) more
    ∙ ap (λ bytes. take len room ++ bytes) (take-append-le more part (post_of len left room) some)

-- how much room is lent to a read
lent : (room : List ℕ) (len size : ℕ) → length room ≡ size → len ≤ size → length (mid_of len (size - len) room) ≡ size - len
lent room len size whole within =
    let left : length (drop len room) ≡ length room - len = length-drop len room in
    length-take-le (size - len) (drop len room) (omega arith)

-- a part of a room that was read into stays in the room
fits : (room part : List ℕ) (len more size : ℕ) → length room ≡ size → len ≤ size → more ≤ length part → length part ≡ length (mid_of len (size - len) room) → len + more ≤ size
fits room part len more size whole within some e = omega (arith, lent room len size whole within)

positive : (n : ℕ) → (n ≡ 0 → ⊥) → 1 ≤ n
positive zero h = absurd (h refl)
positive (suc n) h = omega arith

step : (k len more : ℕ) → k ≤ len → 1 ≤ more → k + 1 ≤ len + more
step k len more h m = omega arith

-- as many bytes were read as were wanted
full : (known left : Option (List ℕ)) (read : List ℕ) (size : ℕ) → Consumes known left read → length read ≡ size → IfSome known (λ bytes. read ≡ take size bytes)
full None left read size h e = tt
full (Some bytes) None read size h e = absurd h
full (Some bytes) (Some more) read size h e = sym (ap (take size) h ∙ take_at read more size e)

-- the bytes ended
short : (known left : Option (List ℕ)) (read : List ℕ) (size : ℕ) → Consumes known left read → IsAtEnd left → length read ≤ size → IfSome known (λ bytes. read ≡ take size bytes)
short None left read size h e few = tt
short (Some bytes) None read size h e few = absurd h
short (Some bytes) (Some more) read size h e few =
    let all : bytes ≡ read = h ∙ ap (λ rest. read ++ rest) e ∙ append-nil read in
    sym (ap (take size) all ∙ take_all size read few)

pub loop-preserved : goal.loop-preserved
loop-preserved g c =
    let read = c.in_ok-more.ensures in
    let whole = c.loop.invariant.same in
    let within : c.loop.len ≤ length c.loop.room = rw whole c.loop.invariant.within in
    let same = same_len_mid c.loop.len (ROOM - c.loop.len) c.loop.room c.read.new.buf c.read.auto.buf in
    let all = front c.loop.room c.read.new.buf c.loop.len (ROOM - c.loop.len) c.in_ok-more.more within read.bound.0 in
    record {
      within = fits c.loop.room c.read.new.buf c.loop.len c.in_ok-more.more ROOM whole c.loop.invariant.within read.bound.0 c.read.auto.buf;
      same = same ∙ whole;
      some = step c.loop.counter c.loop.len c.in_ok-more.more c.loop.invariant.some (positive c.in_ok-more.more c.if-more-eq0.false);
      bytes = rw all (Consumes-trans _ _ _ _ _ c.loop.invariant.bytes read.bytes.0);
    }

-- a read gave nothing: no room was left, or the bytes ended
stopped : (known left : Option (List ℕ)) (read : List ℕ) (part size : ℕ) → Consumes known left read → (0 < part → IsAtEnd left) → length read ≤ size → part ≡ size - length read
    → IfSome known (λ bytes. read ≡ take size bytes)
stopped known left read part size h e few rest =
    ⊎_elim (λ some. short known left read size h (e some) few) (λ none. full known left read size h (omega arith)) (cases_lt 0 part)

nothing : (read part : List ℕ) (more : ℕ) → more ≡ 0 → read ++ take more part ≡ read
nothing read part more e = ap (λ n. read ++ take n part) e ∙ append-nil read

pub returns-clause-bytes : goal.returns-clause-bytes
returns-clause-bytes g c =
    let whole = c.loop.invariant.same in
    let within : c.loop.len ≤ length c.loop.room = rw whole c.loop.invariant.within in
    let size : length (take c.loop.len c.loop.room) ≡ c.loop.len = length-take-le c.loop.len c.loop.room within in
    elim c.loop-test.branch [
      | else-loop-test w ↦ rw w.room-is (full _ _ (take c.loop.len c.loop.room) ROOM c.loop.invariant.bytes (omega (arith, size, w.loop-test.false, c.loop.invariant.some, c.loop.invariant.within)))
      | then-loop-test+in_ok-more+then-more-eq0 w ↦
          let read = w.in_ok-more.ensures in
          let same = nothing (take c.loop.len c.loop.room) w.read.new.buf w.in_ok-more.more w.if-more-eq0.true in
          let front = take-put_mid_below c.loop.len (ROOM - c.loop.len) c.loop.room w.read.new.buf c.loop.len (omega arith) within in
          let room = w.read.auto.buf ∙ lent c.loop.room c.loop.len ROOM whole c.loop.invariant.within in
          let all = rw same at (Consumes-trans _ _ _ _ _ c.loop.invariant.bytes read.bytes.0) in
          rw (w.room-is, front) (stopped _ _ (take c.loop.len c.loop.room) (length w.read.new.buf) ROOM all (read.bytes.1 w.if-more-eq0.true) (omega (arith, size, c.loop.invariant.within)) (omega (arith, size, room)))
    ]
