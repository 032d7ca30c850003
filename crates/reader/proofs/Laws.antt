-- The laws by which `search` follows the reader's rules along the answers of the grammar and of the pass; a refusal of the pass leaves both
-- lists as they are. Assumes nothing.
use Rattle.std.proofs.Common.{Result, Ok, Err}
use Prim.Native.Nat.{ℕ}
use mathlib.Core.Path.{◌≡◌, sym, ap, ◌∙◌}
use mathlib.Core.Bool.{Bool, true, false}
use mathlib.Core.List.{List}
use native.Mathlib.Omega.{arith}
use lib.Dec.{leb}
use lib.ListN.{length, replicate}
use Rattle.std.specs.Result.{IsErr, IsErrAnd}
use Rattle.base.proofs.Laws.{passed_on}
use Rattle.base.specs.Base.{whether, called}
use Rattle.input.specs.Input.{Tokens, depth_limit}
use Rattle.input.specs.declared.Refusal.{Refusal}
use Rattle.event.specs.Event.{fresh}
use Rattle.event.specs.declared.State.{State}
use Rattle.parser.specs.declared.CompletedMarker.{CompletedMarker}
use Rattle.parser.specs.Prog.{Reply, Ran, run, Perhaps}
use Rattle.process.specs.Process.{process_of, sound_of, count_of, write_of, Processed}
use Rattle.grammar.specs.Expressions.{expr_bp}
use Rattle.reader.specs.Reader.{Answer, cleared, refusing, on_processed, on_read, top_of}
use Rattle.reader.specs.declared.Parsed.{Parsed}

-- "after a refusal unchanged"
abbrev Pass : Type 0
Pass = Processed × List ℕ × List ℕ

kept_by : (a b : Bool) (w : ℕ × List ℕ) (ev st : List ℕ) (x y r : Refusal) {e s : List ℕ}
    → ◌≡◌ {A = Pass} (Err r, e, s)
    (whether a (λ _. whether b (λ _. called w λ n st'. (Ok (n, fresh), replicate (length ev) 0, st')) (λ _. (Err x, ev, st)))
    (λ _. (Err y, ev, st)))
    → (e ≡ ev) × (s ≡ st)
unfolding whether called
kept_by true true w ev st x y r q =
    let first : ◌≡◌ {A = Processed} (Err r) (Ok (w.0, fresh)) = ap (λ (z : Pass). z.0) q in
    absurd (let z : ◌≡◌ {A = ℕ} 0 1 = cc in omega arith)
kept_by true false w ev st x y r q = (ap (λ (z : Pass). z.1) q, ap (λ (z : Pass). z.2) q)
kept_by false b w ev st x y r q = (ap (λ (z : Pass). z.1) q, ap (λ (z : Pass). z.2) q)

kept : (s : State) (ev st : List ℕ) (r : Refusal) {e t : List ℕ} → (Err r, e, t) ≡ process_of s ev st → (e ≡ ev) × (t ≡ st)
unfolding process_of
kept s ev st r q = kept_by (sound_of s ev) (leb (count_of ev s.count) (length st)) (write_of s.count ev st) ev st _ _ r q

module _ {x : Processed} {e s : List ℕ} (state : State) (ev st : List ℕ) where
  pub passed_steps : {n : ℕ} {f : State} → (x, e, s) ≡ process_of state ev st → x ≡ Ok (n, f)
      → ◌≡◌ {A = Answer} (Ok (record { consumed = state.pos.0; steps = n }), e, s) (on_processed state.pos.0 ev st (process_of state ev st))
  unfolding on_processed
  passed_steps p q = rw (← p, q)

  pub passed_refused : {r : Refusal} {a : (Result Parsed Refusal)} {e' : List ℕ} → (x, e, s) ≡ process_of state ev st → x ≡ Err r → a ≡ Err r → e' ≡ cleared e
      → (a, e', s) ≡ on_processed state.pos.0 ev st (process_of state ev st)
  unfolding on_processed refusing
  passed_refused {r} {a} {e'} p q h c =
      let same : (e ≡ ev) × (s ≡ st) = kept state ev st r (ap (λ (z : Processed). (z, e, s)) (sym q) ∙ p) in
      rw (← p, q, h, c, same.0, same.1)

module _ {x : Reply (Perhaps CompletedMarker)} {e : List ℕ} {r : Ran (Perhaps CompletedMarker)} (st : List ℕ) where
  pub read_on : {out : Answer} {s : State} {m : Perhaps CompletedMarker} → (x, e) ≡ r → x ≡ Ok (s, m) → out ≡ on_processed s.pos.0 e st (process_of s e st) → out ≡ on_read st r
  unfolding on_read
  read_on p q h = rw (← p, q) h

  pub read_refused : {n : Refusal} {a : Result Parsed Refusal} {e' : List ℕ} → (x, e) ≡ r → x ≡ Err n → a ≡ Err n → e' ≡ cleared e → (a, e', st) ≡ on_read st r
  unfolding on_read refusing
  read_refused p q h c = rw (← p, q, h, c)

-- a check that refuses ends at once
pub check_refused : {x : Result Parsed Refusal} {r : Refusal} (e s : List ℕ) → IsErr x × IsErrAnd x (λ y. y ≡ r) → ◌≡◌ {A = Answer} (x, e, s) (Err r, e, s)
check_refused e s h = ap (λ y. (y, e, s)) (passed_on h)

-- "Reading at strength b (the top at 1)"
pub read_top : (ts : Tokens) (ev : List ℕ) {s : State} {d : ℕ} {y : Ran (Perhaps CompletedMarker)} → s ≡ fresh → d ≡ depth_limit → y ≡ run ts (expr_bp d ts 1) s ev → y ≡ top_of ts ev
unfolding top_of
read_top ts ev p q h = h ∙ rw (p, q)
