use Rattle.std.proofs.Common.{◌≡◌, ℕ, ◌∙◌, ap, arith, length}
use Rattle.base.proofs.Laws.{passed_on}
use Rattle.input.specs.Input.{Tokens, Checked, tokens_of, bytes_of}
use Rattle.input.proofs.Laws.{checks}
use Rattle.input.proofs.Tokens.check.Goals as goal

pub returns-in_err-lengths : goal.returns-in_err-lengths
unfolding tokens_of
returns-in_err-lengths c = search (checks, passed_on, c.in_err-lengths.was)

whole : (ts : Tokens) {n : ℕ} {out : Checked} → out ≡ bytes_of ts 0 n → n ≡ length ts.kinds → out ≡ bytes_of ts 0 (length ts.kinds)
whole ts h e = h ∙ ap (bytes_of ts 0) e

pub returns : goal.returns
unfolding tokens_of
returns c =
    let out : _ = whole c.args.self.now c.check_bytes.ensures (omega (arith, c.len.ensures.value)) in
    search (checks, c.in_ok-lengths.was, out)
