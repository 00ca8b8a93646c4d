use Rattle.std.proofs.Common.{refl, rules}
use Rattle.table.proofs.Parts.{plain_word, starred_word}
use Rattle.table.proofs.words.put_word.Goals as goal

pub returns-in_err-byte-in-Some : goal.returns-in_err-byte-in-Some
returns-in_err-byte-in-Some g c =
    let bytes = starred_word _ _ (c.in-Some.digits, c.in-Some.count) _ _ c.in-Some.ensures.cases c.as_bytes.ensures.value c.in_err-byte-in-Some.ensures refl in
    rw (bytes, c.from_residual.ensures) tt

pub returns-in_err-repeat_count-in-Some : goal.returns-in_err-repeat_count-in-Some
returns-in_err-repeat_count-in-Some g c =
    let bytes = starred_word _ _ (c.in-Some.digits, c.in-Some.count) _ _ c.in-Some.ensures.cases c.as_bytes.ensures.value c.in_ok-byte-in-Some.ensures c.in_err-repeat_count-in-Some.ensures.value in
    rw (bytes, c.from_residual-in_err-repeat_count-in-Some.ensures) tt

pub returns-in_ok-repeat_count-in-Some : goal.returns-in_ok-repeat_count-in-Some
returns-in_ok-repeat_count-in-Some g c =
    let bytes = starred_word _ _ (c.in-Some.digits, c.in-Some.count) _ _ c.in-Some.ensures.cases c.as_bytes.ensures.value c.in_ok-byte-in-Some.ensures c.in_ok-repeat_count-in-Some.ensures.value in
    rw bytes c.put_repeated.ensures

pub returns-in-None : goal.returns-in-None
returns-in-None g c = rw (plain_word _ _ (search rules) c.in-None.ensures.cases c.as_bytes-in-None.ensures.value) c.put_hex.ensures
