-- The pass from events to steps, over the lent lists.
use Rattle.std.specs.Prelude.{ℕ, suc, ◌+◌, ◌-◌, ◌*◌, Bool, true, false, List, length, get_or, set, replicate, ltb, leb, eqb, Result, Ok, Err}
use Rattle.base.specs.Base.{whether, called, bound, Next, again, done, loops}
use Rattle.input.specs.SyntaxKind.{ENTER, TOKEN, LEAVE, FLOAT_SPLIT, FAULT, WIDTH_STEP, STEPS_FULL, UNSOUND}
use Rattle.input.specs.Input.{token_limit, refusal}
use Rattle.event.specs.Event.{START, FINISH, TOKEN_TAG, SPLIT_TAG, ERROR_TAG, SPENT, tag_of, rank_of, flag_of, node_of, offset_of, entry, decodes, in_range, fresh}
use Rattle.event.specs.declared.State.{State}
use Rattle.input.specs.declared.Refusal.{Refusal}

-- "An event list is sound when every entry up to the count decodes, forward offsets land on later starts in the list, each split is directly followed by a finish, the count is at most the list's length and at most 65,552, and the position at most n (4,096 in a call lent no tokens, the pass included)."

-- an entry's forward offset, 0 for none
unfoldable pub forward_of : ℕ → ℕ
forward_of x = whether (eqb (tag_of x) START) (λ _. offset_of x) (λ _. 0)

unfoldable pub lands_at : List ℕ → ℕ → ℕ → Bool
lands_at ev n i =
    bound (forward_of (get_or ev i 0)) λ offset.
    whether (eqb offset 0) (λ _. true) λ _.
    whether (ltb (i + offset) n) (λ _. eqb (tag_of (get_or ev (i + offset) 0)) START) (λ _. false)

unfoldable pub paired_at : List ℕ → ℕ → ℕ → Bool
paired_at ev n i =
    whether (eqb (tag_of (get_or ev i 0)) SPLIT_TAG)
    (λ _. whether (ltb (i + 1) n) (λ _. eqb (tag_of (get_or ev (i + 1) 0)) FINISH) (λ _. false))
    (λ _. true)

unfoldable pub sound_at : List ℕ → ℕ → ℕ → Bool
sound_at ev n i = whether (decodes (get_or ev i 0)) (λ _. whether (lands_at ev n i) (λ _. paired_at ev n i) (λ _. false)) (λ _. false)

-- every entry from i on, n entries in all
unfoldable pub sound_turn : List ℕ → ℕ → ℕ → Next ℕ Bool
sound_turn ev n i = whether (ltb i n) (λ _. whether (sound_at ev n i) (λ _. again (i + 1)) (λ _. done false)) (λ _. done true)

unfoldable pub sound_events : List ℕ → ℕ → Bool
sound_events ev n = loops (suc n) (sound_turn ev n) false 0

unfoldable pub sound_of : State → List ℕ → Bool
sound_of s ev = whether (in_range token_limit s ev) (λ _. sound_events ev s.count) (λ _. false)

-- a start that has a name
unfoldable pub has_name : ℕ → Bool
has_name x = whether (eqb (tag_of x) START) (λ _. ltb SPENT (rank_of x)) (λ _. false)

-- how many names an entry has
abbrev pub names_of : ℕ → ℕ
names_of x = whether (has_name x) (λ _. 1) (λ _. 0)

abbrev pub is_split : ℕ → Bool
is_split x = eqb (tag_of x) SPLIT_TAG

-- how many steps an entry gives by itself; the first argument says whether a split stands right before it
unfoldable pub steps_at : Bool → ℕ → ℕ
steps_at after x =
    whether (eqb (tag_of x) START) (λ _. names_of x) λ _.
    whether (eqb (tag_of x) TOKEN_TAG) (λ _. 1) λ _.
    whether (eqb (tag_of x) SPLIT_TAG) (λ _. 1) λ _.
    whether (eqb (tag_of x) ERROR_TAG) (λ _. 1) λ _.
    whether after (λ _. 0) (λ _. 1)

unfoldable pub count_turn : List ℕ → ℕ → ℕ × ℕ × Bool → Next (ℕ × ℕ × Bool) ℕ
count_turn ev n z =
    whether (ltb z.0 n)
    (λ _. again (z.0 + 1, z.1 + steps_at z.2 (get_or ev z.0 0), is_split (get_or ev z.0 0)))
    (λ _. done z.1)

unfoldable pub count_of : List ℕ → ℕ → ℕ
count_of ev n = loops (suc n) (count_turn ev n) 0 (0, 0, false)

-- "The pass: at a start, collect its chain of forward parents, each turned nameless when visited, and enter the named ones outermost first."

-- how many of the chain from a start on are named: a turn over (start, named so far)
unfoldable pub chain_turn : List ℕ → ℕ → ℕ × ℕ → Next (ℕ × ℕ) ℕ
chain_turn ev n z =
    whether (ltb z.0 n)
    (λ _. bound (get_or ev z.0 0) λ x.
    bound (z.1 + names_of x) λ k.
    whether (eqb (forward_of x) 0) (λ _. done k) (λ _. again (z.0 + forward_of x, k)))
    (λ _. done z.1)

unfoldable pub chain_of : List ℕ → ℕ → ℕ → ℕ
chain_of ev n at = loops (suc n) (chain_turn ev n) 0 (at, 0)

-- a visited start: nameless, and without its forward parent
abbrev pub visited_entry : ℕ
visited_entry = entry START SPENT 0 0 0

unfoldable pub visited : ℕ → ℕ
visited x = whether (eqb (tag_of x) START) (λ _. visited_entry) (λ _. x)

-- the enter of a start that has a name
abbrev pub entered_of : List ℕ → ℕ → ℕ → List ℕ
entered_of st at x = whether (has_name x) (λ _. set st at (ENTER + node_of x)) (λ _. st)

-- the enters of a chain, written below top: a turn over (start, top, events, steps)
unfoldable pub enter_turn : ℕ → ℕ × ℕ × List ℕ × List ℕ → Next (ℕ × ℕ × List ℕ × List ℕ) (List ℕ × List ℕ)
enter_turn n z =
    whether (ltb z.0 n)
    (λ _. bound (get_or z.2 z.0 0) λ x.
    bound (z.1 - names_of x) λ top.
    bound (entered_of z.3 top x) λ st.
    bound (set z.2 z.0 (visited x)) λ ev.
    whether (eqb (forward_of x) 0) (λ _. done (ev, st)) (λ _. again (z.0 + forward_of x, top, ev, st)))
    (λ _. done (z.2, z.3))

unfoldable pub enter_of : List ℕ → List ℕ → ℕ → ℕ → ℕ → List ℕ × List ℕ
enter_of ev st n at top = loops (suc n) (enter_turn n) (ev, st) (at, top, ev, st)

-- "Finish gives leave, except the finish right after a split, which is dropped. A split stands for one leave if it ends in a dot, two if not."
-- the step of an entry that is no start
unfoldable pub step_of : ℕ → ℕ
step_of x =
    whether (eqb (tag_of x) TOKEN_TAG) (λ _. TOKEN + WIDTH_STEP * rank_of x + node_of x) λ _.
    whether (eqb (tag_of x) SPLIT_TAG) (λ _. FLOAT_SPLIT + flag_of x) λ _.
    whether (eqb (tag_of x) ERROR_TAG) (λ _. FAULT + node_of x) (λ _. LEAVE)

-- a turn over (entry, steps so far, whether a split stands before, events, steps)
unfoldable pub process_turn : ℕ → ℕ × ℕ × Bool × List ℕ × List ℕ → Next (ℕ × ℕ × Bool × List ℕ × List ℕ) (ℕ × List ℕ)
process_turn n z =
    whether (ltb z.0 n)
    (λ _. bound (get_or z.3 z.0 0) λ x.
    whether (eqb (tag_of x) START)
    (λ _. bound (z.1 + chain_of z.3 n z.0) λ top. called (enter_of z.3 z.4 n z.0 top) λ ev st. again (z.0 + 1, top, false, ev, st)) λ _.
    whether (eqb (steps_at z.2 x) 1)
    (λ _. again (z.0 + 1, z.1 + 1, is_split x, z.3, set z.4 z.1 (step_of x)))
    (λ _. again (z.0 + 1, z.1, false, z.3, z.4)))
    (λ _. done (z.1, z.4))

-- the number of steps, and the step list
unfoldable pub write_of : ℕ → List ℕ → List ℕ → ℕ × List ℕ
write_of n ev st = loops (suc n) (process_turn n) (0, st) (0, 0, false, ev, st)

-- what the pass answers: the number of steps, and the fresh state
abbrev pub Processed : Type 0
Processed = Result (ℕ × State) Refusal

-- "Machine calls refuse 9 for a count or position out of range, the pass for all of it, before 5." "After success the list is fresh, all 0, count and position 0 too; after a refusal unchanged."
unfoldable pub process_of : State → List ℕ → List ℕ → Processed × List ℕ × List ℕ
process_of s ev st =
    whether (sound_of s ev)
    (λ _. whether (leb (count_of ev s.count) (length st))
    (λ _. called (write_of s.count ev st) λ n st'. (Ok (n, fresh), replicate (length ev) 0, st'))
    (λ _. (Err (refusal STEPS_FULL s.pos.0), ev, st)))
    (λ _. (Err (refusal UNSOUND 0), ev, st))
