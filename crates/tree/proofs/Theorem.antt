-- The answers of the reader as trees: the reading theorem, through the pass, to the steps. (`Err` is an error event, a refusal `outcome.Err`; `Result` is what the theorem gives.) Assumes nothing.
use Rattle.std.proofs.Common.{Ok}
use Rattle.std.specs.declared.result.Result.TheVariants as outcome
use mathlib.Core.Path.{◌≡◌, refl, sym, subst, ap, ◌∙◌}
use mathlib.Core.List.{List, [], ◌∷◌, ◌++◌, map, append_assoc, append-nil}
use mathlib.Core.Bool.{true, false}
use mathlib.Core.Logic.{◌⊎◌, inl, inr}
use Prim.Native.Nat.{ℕ, ◌+◌, ◌≤◌}
use native.Mathlib.Omega.{arith}
use native.Mathlib.Nat.{le_refl}
use lib.ListN.{length, take, drop, replicate, length-map}
use lib.Seq.{sets, sets-eq, take_at, take-add}
use borrow.Author.Tests.{leb-true}
use Rattle.base.proofs.Cases.{whether_by}
use Rattle.base.specs.Base.{called}
use Rattle.input.specs.SyntaxKind.{FLOAT_NUMBER}
use Rattle.input.specs.Input.{Tokens, depth_limit, parts_of, width_of, on_checked, tokens_of, Checked}
use Rattle.event.specs.Event.{Event, fresh}
use Rattle.event.specs.declared.State.{State}
use Rattle.parser.specs.Prog.{Reply, fine, bad, Ran, run, Perhaps, some, none}
use Rattle.parser.specs.declared.CompletedMarker.{CompletedMarker}
use Rattle.process.specs.Process.{sound_of, count_of, write_of, process_of, Processed}
use Rattle.grammar.specs.Expressions.{expr_bp}
use Rattle.reader.specs.Reader as reader
use Rattle.reader.specs.Reader.{refusing, on_processed, on_read, top_of, parse_of}
use Rattle.demand.specs.Steps.{Step, code_of}
use Rattle.demand.specs.Demand.{seen}
use Rattle.demand.proofs.Pass.{steps}
use Rattle.demand.proofs.Sound.{pass_length}
use Rattle.demand.proofs.Tokens.{present_stand, stand_one}
use Rattle.demand.proofs.Written.{written}
use Rattle.demand.proofs.Passes.{sound_fits, count_is}
use Rattle.tree.specs.Tree.{Tree, Leaf, tok, float, leaves, raws, Covers, flat}
use Rattle.tree.specs.Grouped.{Grouped, NoRanges}
use Rattle.tree.specs.Statement.{NoErrors, Over, Answer, EveryAnswerIsATree, GroupsAsTheTable}
use Rattle.tree.proofs.Shape.{whole}
use Rattle.tree.proofs.Machine.{Shows}
use Rattle.tree.proofs.Errors.{Err}
use Rattle.tree.proofs.Wp.{Post, Sat, sound}
use Rattle.tree.proofs.Reading.{Ends, Expr, Some}
use Rattle.tree.proofs.Loop.{reading}
use Rattle.tree.proofs.Flat.{pass_steps}
use Rattle.tree.proofs.Trees.{flat_of, whole_sound}
use Rattle.tree.proofs.Faults.{an_error_is_a_step}
use Rattle.tree.proofs.Ranges.{only_tree}
use Rattle.tree.proofs.Once.{checked_raw, one_tree}

-- Leaves that stand one after the other: their raw kinds are those of the list.
raws_on : (l : List ℕ) (p : ℕ) (xs ys : List ℕ) → take (length xs) (drop p l) ≡ xs → take p l ++ (xs ++ ys) ≡ take (p + length xs) l ++ ys
raws_on l p xs ys q = rw (take-add, q, append_assoc)

covers_raws : (ts : Tokens) (p q : ℕ) (l : List Leaf) → Covers ts p l q → take p ts.kinds ++ raws l ≡ take q ts.kinds
unfolding Covers raws width_of
covers_raws ts p q [] c = append-nil (take p ts.kinds) ∙ ap (λ (i : ℕ). take i ts.kinds) c
covers_raws ts p q (tok k ∷ l) c = raws_on ts.kinds p (parts_of k) (raws l) (present_stand ts p k c.0).1 ∙ covers_raws ts (p + width_of k) q l c.1
covers_raws ts p q (float d ∷ l) c = raws_on ts.kinds p (FLOAT_NUMBER ∷ []) (raws l) (stand_one ts p FLOAT_NUMBER c.0).1 ∙ covers_raws ts (p + 1) q l c.2

-- a tree of steps
abbrev Result : Tokens → ℕ → List ℕ → Type 0
Result ts consumed l = (t : Tree) × (l ≡ flat t) × Over ts consumed t × (NoRanges ts → Grouped t)

-- what an answer of the reader says
abbrev Says : Tokens → reader.Answer → Type 0
Says ts a = elim a.0 [ Ok got ↦ (NoErrors (take got.steps a.2) → Result ts got.consumed (take got.steps a.2)) | outcome.Err r ↦ Unit {0} ]

abbrev Top : Tokens → Post (Perhaps CompletedMarker)
Top ts = Some (Expr ts (Ends ts 1) [] 0)

-- the pass writes the steps of the events first in the list
module _ (s : State) (ev st : List ℕ) (fine_events : sound_of s ev ≡ true) (room : count_of ev s.count ≤ length st) where
  abbrev ss : List Step
  ss = steps (seen s ev)

  counted : count_of ev s.count ≡ length ss
  unfolding steps seen
  counted = count_is s.count ev (sound_fits s ev fine_events) ∙ sym (pass_length (length (seen s ev)) false (seen s ev) (le_refl (length (seen s ev))))

  first_in_lem : take (length ss) (sets st 0 (map code_of ss)) ≡ map code_of ss
  first_in_lem = ap (take (length ss)) (sets-eq (map code_of ss) st 0 (omega (arith, length-map ss code_of, counted))) ∙ take_at (map code_of ss) _ (length ss) (length-map ss code_of)

-- the steps of what was read
result : (ts : Tokens) (s : State) (ev : List ℕ) (a : Perhaps CompletedMarker) → Err s ev ⊎ ((E : List Event) × Shows s.count ev E × Top ts a E s.pos.0) → NoErrors (map code_of (steps (seen s ev))) → Result ts s.pos.0 (map code_of (steps (seen s ev)))
unfolding seen
result ts s ev a (inl e) h = absurd (an_error_is_a_step s ev e h)
result ts s ev none (inr z) h = absurd z.2
result ts s ev (some m) (inr z) h =
    let t : Tree = z.2.0 in
    let c : Covers ts 0 (leaves t) s.pos.0 = z.2.1.2 in
    (t, ap (λ (l : List Event). map code_of (steps l)) (z.1.events ∙ z.2.1.0) ∙ ap (map code_of) (pass_steps (whole t) (whole_sound t)) ∙ flat_of t, record { covers = c; in_order = covers_raws ts 0 s.pos.0 (leaves t) c }, λ n. (z.2.2 n).0)

module _ (ts : Tokens) (s : State) (ev st : List ℕ) (a : Perhaps CompletedMarker) (h : Err s ev ⊎ ((E : List Event) × Shows s.count ev E × Top ts a E s.pos.0)) where
  abbrev Goes : Processed × List ℕ × List ℕ → Type 0
  Goes r = Says ts (on_processed s.pos.0 ev st r)

  refused_says : (r : _) → Goes (outcome.Err r, ev, st)
  unfolding on_processed refusing
  refused_says r = tt

  written_says : (fine_events : sound_of s ev ≡ true) (room : count_of ev s.count ≤ length st) → Goes (called (write_of s.count ev st) (λ n st'. (Ok (n, fresh), replicate (length ev) 0, st')))
  unfolding on_processed called seen
  written_says f r =
      subst (λ (w : ℕ × List ℕ). NoErrors (take w.0 w.1) → Result ts s.pos.0 (take w.0 w.1)) (sym (written s.count ev st (sound_fits s ev f)))
      (subst (λ (l : List ℕ). NoErrors l → Result ts s.pos.0 l) (sym (first_in_lem s ev st f r)) (result ts s ev a h))

  pass_says : Goes (process_of s ev st)
  unfolding process_of
  pass_says = whether_by Goes _ _ _ (λ f. whether_by Goes _ _ _ (λ r. written_says f (leb-true _ _ r)) (λ _. refused_says _)) (λ _. refused_says _)

read_says : (ts : Tokens) (st : List ℕ) (x : Reply (Perhaps CompletedMarker)) (e : List ℕ) → Sat (Top ts) (x, e) → Says ts (on_read st (x, e))
unfolding on_read refusing
read_says ts st (fine s a) e h = pass_says ts s e st a h
read_says ts st (bad r) e h = tt

checked_says : (ts : Tokens) (ev st : List ℕ) (f : Unit {0} → reader.Answer) → Says ts (f tt) → (c : Checked) → Says ts (on_checked c f (λ r. (outcome.Err r, ev, st)))
unfolding on_checked
checked_says ts ev st f h (Ok _) = h
checked_says ts ev st f h (outcome.Err r) = tt

parse_says : (ts : Tokens) (ev st : List ℕ) → Says ts (parse_of ts ev st)
unfolding parse_of top_of
parse_says ts ev st = checked_says ts ev st _ (read_says ts st r.0 r.1 (sound ts (expr_bp depth_limit ts 1) (Top ts) fresh ev [] (record { events = refl; fits = omega arith }) (reading depth_limit ts 1 (omega arith) [] 0))) (tokens_of ts)
  where
    r : Ran (Perhaps CompletedMarker)
    r = run ts (expr_bp depth_limit ts 1) fresh ev

answered : (ts : Tokens) (consumed : ℕ) (l : List ℕ) → Answer ts consumed l → Result ts consumed l
answered ts consumed l a =
    subst (λ (z : List ℕ). Result ts consumed z) (sym a.are_steps)
    (subst (λ (z : reader.Answer). Says ts z) a.is_read (parse_says ts a.events a.room) (subst NoErrors a.are_steps a.no_errors))

-- a list that is read passed its checks
passed : (ev st : List ℕ) (f : Unit {0} → reader.Answer) (c : Checked) (consumed n : ℕ) (e s : List ℕ) → on_checked c f (λ r. (outcome.Err r, ev, st)) ≡ (Ok (record { consumed = consumed; steps = n }), e, s) → c ≡ Ok tt
unfolding on_checked
passed ev st f (Ok _) consumed n e s q = refl
passed ev st f (outcome.Err r) consumed n e s q = absurd (let y : _ = ap (λ (z : reader.Answer). z.0) q in let z : ◌≡◌ {A = ℕ} 0 1 = cc in omega arith)

raw_tokens : (ts : Tokens) (consumed : ℕ) (l : List ℕ) → Answer ts consumed l → tokens_of ts ≡ Ok tt
unfolding parse_of
raw_tokens ts consumed l a = passed a.events a.room _ (tokens_of ts) consumed a.many a.events' a.room' a.is_read

pub every_answer_is_a_tree : EveryAnswerIsATree
every_answer_is_a_tree ts consumed l a =
    let r = answered ts consumed l a in
    (r.0, r.1, r.2, λ t' e o. one_tree ts (checked_raw ts (raw_tokens ts consumed l a)) consumed t' r.0 o.covers r.2.covers (sym e ∙ r.1))

pub groups_as_the_table : GroupsAsTheTable
groups_as_the_table ts consumed l a n =
    let r = answered ts consumed l a in
    (r.0, record { is_flat = r.1; over = r.2; groups = r.3 n; only = only_tree ts consumed r.0 n r.2 (r.3 n) })
