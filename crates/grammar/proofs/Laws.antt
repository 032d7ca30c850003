-- What the grammar's own proofs use, as laws for `search`: for each case of a turn what reply it stands for, for a node as a turn of the postfix forms, for taking a kind with one end, for the depth, for a loop. Each is a step of congruence. Assumes nothing.
use Rattle.std.proofs.Common.{Result, Ok, Err, Option, Some, None}
use mathlib.Core.Path.{◌≡◌, refl, sym, ap, subst, ◌∙◌}
use mathlib.Core.List.{List}
use mathlib.Core.Bool.{Bool}
use Prim.Native.Nat.{ℕ, zero, suc, ◌-◌}
use native.Mathlib.Numerals.{sub-one}
use Rattle.std.specs.Result.{IsErr, IsErrAnd}
use Rattle.std.specs.Option.{unwrap_or}
use Rattle.base.proofs.Laws.{passed_on}
use Rattle.base.specs.Base.{whether, bound, Next, again, done}
use mathlib.Core.Logic.{⊎_elim}
use lib.Dec.{eqb, ltb}
use lib.ListN.{length, get_or-eq_default}
use borrow.Author.Tests.{ltb-false}
use Rattle.input.specs.SyntaxKind.{EOF, IDENT, TOO_DEEP}
use Rattle.input.proofs.Laws.{true_or_false}
use Rattle.input.specs.Input.{Tokens, refusal, kind_at, stands}
use Rattle.input.specs.declared.Refusal.{Refusal}
use Rattle.event.specs.declared.State.{State}
use Rattle.parser.specs.declared.CompletedMarker.{CompletedMarker}
use Rattle.parser.specs.Calls.{Closed, Taken, eat_of}
use Rattle.parser.specs.Prog.{Prog, look, start, eat, fine, bad, Ran, run, Perhaps}
use Rattle.parser.proofs.Laws.{eat_took, eat_no, then_fine, then_bad, as_done}
use Rattle.grammar.specs.Views.{postfix_reply, args_reply, postfix_of}
use Rattle.grammar.specs.declared.Postfix.{Postfix}
use Rattle.grammar.specs.declared.Postfix.TheVariants as postfix
use Rattle.grammar.specs.declared.Args.{Args}
use Rattle.grammar.specs.declared.Args.TheVariants as args
use Rattle.atoms.specs.Views.{moved_reply}
use Rattle.operators.specs.TokenSet.{is_first}
use Rattle.atoms.proofs.Laws.{atoms, turnings}
use Rattle.grammar.specs.Expressions.{onward, expression, no_expression, expr_bp}

-- a turn of the postfix forms
pub postfix_again : {x : Result Postfix Refusal} {s : State} {m : CompletedMarker} {f : Bool} → x ≡ Ok (postfix.Again s m f) → postfix_reply x ≡ fine s (again (m, f))
unfolding postfix_reply
postfix_again q = ap postfix_reply q

pub is_postfix_again : (s : State) (m : CompletedMarker) (f : Bool) (ev : List ℕ) → ◌≡◌ {A = Ran (Next (CompletedMarker × Bool) CompletedMarker)} (postfix_reply (Ok (postfix.Again s m f)), ev) (fine s (again (m, f)), ev)
unfolding postfix_reply
is_postfix_again s m f ev = refl

pub postfix_done : {x : Result Postfix Refusal} {s : State} {m : CompletedMarker} → x ≡ Ok (postfix.Done s m) → postfix_reply x ≡ fine s (done m)
unfolding postfix_reply
postfix_done q = ap postfix_reply q

pub is_postfix_done : (s : State) (m : CompletedMarker) (ev : List ℕ) → ◌≡◌ {A = Ran (Next (CompletedMarker × Bool) CompletedMarker)} (postfix_reply (Ok (postfix.Done s m)), ev) (fine s (done m), ev)
unfolding postfix_reply
is_postfix_done s m ev = refl

pub postfix_refused : {x : Result Postfix Refusal} {r : Refusal} → x ≡ Err r → postfix_reply x ≡ bad r
unfolding postfix_reply
postfix_refused q = ap postfix_reply q

pub is_postfix_refused : (r : Refusal) (ev : List ℕ) → ◌≡◌ {A = Ran (Next (CompletedMarker × Bool) CompletedMarker)} (postfix_reply (Err r), ev) (bad r, ev)
unfolding postfix_reply
is_postfix_refused r ev = refl

-- a turn of the arguments
pub args_more : {x : Result Args Refusal} {s : State} → x ≡ Ok (args.More s) → args_reply x ≡ fine s (again tt)
unfolding args_reply
args_more q = ap args_reply q

pub is_args_more : (s : State) (ev : List ℕ) → ◌≡◌ {A = Ran (Next (Unit {0}) (Unit {0}))} (args_reply (Ok (args.More s)), ev) (fine s (again tt), ev)
unfolding args_reply
is_args_more s ev = refl

pub args_end_lem : {x : Result Args Refusal} {s : State} → x ≡ Ok (args.End s) → args_reply x ≡ fine s (done tt)
unfolding args_reply
args_end_lem q = ap args_reply q

pub is_args_end : (s : State) (ev : List ℕ) → ◌≡◌ {A = Ran (Next (Unit {0}) (Unit {0}))} (args_reply (Ok (args.End s)), ev) (fine s (done tt), ev)
unfolding args_reply
is_args_end s ev = refl

pub args_refused : {x : Result Args Refusal} {r : Refusal} → x ≡ Err r → args_reply x ≡ bad r
unfolding args_reply
args_refused q = ap args_reply q

pub is_args_refused : (r : Refusal) (ev : List ℕ) → ◌≡◌ {A = Ran (Next (Unit {0}) (Unit {0}))} (args_reply (Err r), ev) (bad r, ev)
unfolding args_reply
is_args_refused r ev = refl

-- a name stands at a position where it is the kind there: past the end the kind is EOF
pub ident_stands : (ts : Tokens) (at : ℕ) → stands ts at IDENT ≡ eqb (kind_at ts at) IDENT
unfolding stands whether
ident_stands ts at =
    ⊎_elim (λ q. rw q refl) (λ q. rw q (rw (get_or-eq_default ts.kinds EOF (ltb-false _ _ q)) refl)) (true_or_false (ltb at (length ts.kinds)))

-- a node turned into a turn of the postfix forms
pub onward_is : (ts : Tokens) (p : Prog CompletedMarker) (s : State) (ev : List ℕ) (x : Closed) {y : Result Postfix Refusal} {e : List ℕ} → (x, e) ≡ run ts p s ev → y ≡ postfix_of x → (postfix_reply y, e) ≡ run ts (onward p) s ev
unfolding onward postfix_of postfix_reply run
onward_is ts p s ev x {y} {e} r q = ap (λ z. (postfix_reply z, e)) q ∙ go x r
  where
    go : (x : Closed) → (x, e) ≡ run ts p s ev → (postfix_reply (postfix_of x), e) ≡ run ts (onward p) s ev
    go (Ok (s1, m)) r = then_fine ts s ev p _ r refl refl
    go (Err n) r = then_bad ts s ev p _ r refl refl

pub postfix_passed : (x : Result Postfix Refusal) {r : Refusal} (ev : List ℕ) → IsErr x × IsErrAnd x (λ y. y ≡ r) → ◌≡◌ {A = Ran (Next (CompletedMarker × Bool) CompletedMarker)} (postfix_reply x, ev) (bad r, ev)
postfix_passed x ev h = ap (λ y. (y, ev)) (postfix_refused (passed_on h))

pub args_passed : (x : Result Args Refusal) {r : Refusal} (ev : List ℕ) → IsErr x × IsErrAnd x (λ y. y ≡ r) → ◌≡◌ {A = Ran (Next (Unit {0}) (Unit {0}))} (args_reply x, ev) (bad r, ev)
args_passed x ev h = ap (λ y. (y, ev)) (args_refused (passed_on h))

-- taking a kind where the end goes on in the same way
pub eat_either : {A : Type 0} {out : Ran A} (ts : Tokens) (s : State) (ev : List ℕ) (kind : ℕ) (p : Prog A) {x : Taken} {o : Option State} {s1 : State} {e : List ℕ} → (x, e) ≡ eat_of ts s kind ev → x ≡ Ok o → s1 ≡ unwrap_or o s → out ≡ run ts p s1 e → out ≡ run ts (eat kind p p) s ev
eat_either ts s ev kind p {o = Some s2} {s1} {e} a b d h = eat_took ts s ev kind p p a b (h ∙ ap (λ z. run ts p z e) d)
eat_either ts s ev kind p {o = None} {s1} {e} a b d h = eat_no ts s ev kind p p a b (h ∙ ap (λ z. run ts p z e) d)

-- a reading at no depth, and at one more
pub depth_none : {depth : ℕ} (ts : Tokens) (b : ℕ) (s : State) (ev : List ℕ) → depth ≡ 0 → ◌≡◌ {A = Ran (Perhaps CompletedMarker)} (Err (refusal TOO_DEEP s.pos.0), ev) (run ts (expr_bp depth ts b) s ev)
unfolding expr_bp run
depth_none ts b s ev h = ap (λ d. run ts (expr_bp d ts b) s ev) (sym h)

pub depth_some : (depth : ℕ) (ts : Tokens) (b : ℕ) (s : State) (ev : List ℕ) {out : Ran (Perhaps CompletedMarker)} → (depth ≡ 0 → ⊥)
    → out ≡ run ts (start λ o. look λ at. bound (kind_at ts at) λ kind. whether (is_first kind) (λ _. expression ts (expr_bp (depth - 1) ts) b o) (λ _. no_expression ts o)) s ev → out ≡ run ts (expr_bp depth ts b) s ev
unfolding expr_bp
depth_some zero ts b s ev h p = absurd (h refl)
depth_some (suc d) ts b s ev {out} h p = subst (λ j. out ≡ run ts (start λ o. look λ at. bound (kind_at ts at) λ kind. whether (is_first kind) (λ _. expression ts (expr_bp j ts) b o) (λ _. no_expression ts o)) s ev) (sub-one (suc d)) p

-- a turn of a loop, as the loop has it
module _ (ts : Tokens) (p : Prog (Next (CompletedMarker × Bool) CompletedMarker)) (st : State) (ev : List ℕ) (x : Result Postfix Refusal) {e : List ℕ} where
  pub postfix_ends : {s : State} {m : CompletedMarker} → (postfix_reply x, e) ≡ run ts p st ev → x ≡ Ok (postfix.Done s m) → (as_done (fine s m), e) ≡ run ts p st ev
  unfolding as_done postfix_reply
  postfix_ends r q = ap (λ (y : Result Postfix Refusal). (postfix_reply y, e)) (sym q) ∙ r

  pub postfix_stops : {n : Refusal} → (postfix_reply x, e) ≡ run ts p st ev → x ≡ Err n → (as_done {A = CompletedMarker} (bad n), e) ≡ run ts p st ev
  unfolding as_done postfix_reply
  postfix_stops r q = ap (λ (y : Result Postfix Refusal). (postfix_reply y, e)) (sym q) ∙ r

  pub postfix_goes : {s : State} {m : CompletedMarker} {f : Bool} → (postfix_reply x, e) ≡ run ts p st ev → x ≡ Ok (postfix.Again s m f) → (fine s (again (m, f)), e) ≡ run ts p st ev
  unfolding postfix_reply
  postfix_goes r q = ap (λ (y : Result Postfix Refusal). (postfix_reply y, e)) (sym q) ∙ r

module _ (ts : Tokens) (p : Prog (Next (Unit {0}) (Unit {0}))) (st : State) (ev : List ℕ) (x : Result Args Refusal) {e : List ℕ} where
  pub args_ends : {s : State} → (args_reply x, e) ≡ run ts p st ev → x ≡ Ok (args.End s) → (as_done (moved_reply (Ok s)), e) ≡ run ts p st ev
  unfolding as_done moved_reply args_reply
  args_ends r q = ap (λ (y : Result Args Refusal). (args_reply y, e)) (sym q) ∙ r

  pub args_stops : {n : Refusal} → (args_reply x, e) ≡ run ts p st ev → x ≡ Err n → (as_done {A = Unit {0}} (bad n), e) ≡ run ts p st ev
  unfolding as_done args_reply
  args_stops r q = ap (λ (y : Result Args Refusal). (args_reply y, e)) (sym q) ∙ r

  pub args_goes : {s : State} → (args_reply x, e) ≡ run ts p st ev → x ≡ Ok (args.More s) → (fine s (again tt), e) ≡ run ts p st ev
  unfolding args_reply
  args_goes r q = ap (λ (y : Result Args Refusal). (args_reply y, e)) (sym q) ∙ r

pub ruleset loops = (turnings, postfix_ends, postfix_stops, postfix_goes, args_ends, args_stops, args_goes)

pub ruleset grammar = (atoms, postfix_again, is_postfix_again, postfix_done, is_postfix_done, postfix_refused, is_postfix_refused, postfix_passed, args_more, is_args_more, args_end_lem, is_args_end, args_refused, is_args_refused, args_passed, onward_is, eat_either)
