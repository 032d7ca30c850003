-- Worked runs of the machine, by computation: what each call leaves in a short list of events, and what it answers.
use Rattle.std.specs.Prelude.{Ok, Err, Some, None, ℕ, ◌≡◌, refl, true, false, List, [], ◌∷◌, replicate}
use Rattle.base.specs.Base.{whether, bound}
use Rattle.input.specs.SyntaxKind.{IDENT, INT_NUMBER, FLOAT_NUMBER, DOT, EQ, DOT2, DOT2EQ, LITERAL, PATH_EXPR, FIELD_EXPR, BIN_EXPR, EXPECTED_EXPRESSION, BAD_KIND, BAD_JOINT, BAD_LENGTH, EVENTS_FULL, UNFIT, UNSOUND}
use Rattle.input.specs.Input.{Tokens, lent, token_limit, width_limit, stands, glued_table, row_of, is_glued, row_parts, parts_of, width_of, follow, present, is_raw, is_joint, is_kind, is_node, is_code, first_off, refusal, lengths_of, bytes_of, on_checked, ahead}
use Rattle.event.specs.Event.{live, spent, named, entry_of, is_live, is_named, event_limit, capacity_of, in_range, fresh}
use Rattle.event.specs.Event as event
use Rattle.event.specs.declared.State.{State}
use Rattle.parser.specs.Calls.{marker, completed, room_for, is_open, is_closed, is_last, start_of, complete_of, abandon_of, precede_of, extend_of, eat_of, bump_any_of, error_of, split_dot_of, split_two_of, split_of, Taken}
use Rattle.parser.specs.Public.{range_of, looked_of, calling, eat_call}
use Rattle.parser.specs.Prog.{Prog, give, refuse, start, complete, abandon, precede, extend, eat, bump_any, error, split, Reply, fine, bad, run, on_opened, on_closed, on_moved, on_taken, on_parted}

-- a program on n fresh entries, with all that it rests on opened
unfoldable pub ran : {A : Type 0} → Tokens → Prog A → ℕ → Reply A × List ℕ
unfolding whether bound token_limit stands glued_table row_of is_glued row_parts parts_of width_of follow present is_raw is_kind is_node is_code is_live is_named event_limit capacity_of room_for is_open is_closed is_last start_of complete_of abandon_of precede_of extend_of eat_of bump_any_of error_of split_dot_of split_two_of split_of run on_opened on_closed on_moved on_taken on_parted
ran ts p n = run ts p fresh (replicate n 0)

abbrev at : ℕ → ℕ → State
at pos count = record { pos = record { 0 = pos }; count = count }

abbrev never : {A : Type 0} → Prog A
never = refuse 0 0

abbrev none : Tokens
none = lent [] []

-- a node around a token
node : ran (lent (IDENT ∷ []) (0 ∷ [])) (start λ m. eat IDENT (complete m LITERAL give) never) 4 ≡ (fine (at 1 3) (completed 0), entry_of (event.start (named LITERAL) 0 false) ∷ entry_of (event.token IDENT 1) ∷ entry_of event.finish ∷ 0 ∷ [])
unfolding ran
node = refl

-- a node around a closed one: the closed one's forward parent is 3 events on
around : ran (lent (IDENT ∷ INT_NUMBER ∷ []) (0 ∷ 0 ∷ [])) (start λ m. eat IDENT (complete m LITERAL λ c. precede c λ o. bump_any (complete o BIN_EXPR give) never) never) 6 ≡ (fine (at 2 6) (completed 3), entry_of (event.start (named LITERAL) 3 false) ∷ entry_of (event.token IDENT 1) ∷ entry_of event.finish ∷ entry_of (event.start (named BIN_EXPR) 0 true) ∷ entry_of (event.token INT_NUMBER 1) ∷ entry_of event.finish ∷ [])
unfolding ran
around = refl

-- a closed node extended to an open one, which is spent
extended : ran none (start λ o. start λ m. complete m PATH_EXPR λ c. extend c o give) 3 ≡ (fine (at 0 3) (completed 1), entry_of (event.start spent 1 false) ∷ entry_of (event.start (named PATH_EXPR) 0 false) ∷ entry_of event.finish ∷ [])
unfolding ran
extended = refl

-- abandon: popped as the last event; its number comes back, and is fit
popped : ran none (start λ o. abandon o (start λ m. complete m LITERAL give)) 2 ≡ (fine (at 0 2) (completed 0), entry_of (event.start (named LITERAL) 0 false) ∷ entry_of event.finish ∷ [])
unfolding ran
popped = refl

-- kept, where it is not the last
kept : ran none (start λ o. error EXPECTED_EXPRESSION (abandon o (give o))) 2 ≡ (fine (at 0 2) (marker 0), entry_of (event.start spent 0 false) ∷ entry_of (event.error EXPECTED_EXPRESSION) ∷ [])
unfolding ran
kept = refl

-- kept, where precede made it
kept_parent : ran none (start λ o. complete o LITERAL λ c. precede c λ m. abandon m (give m)) 3 ≡ (fine (at 0 3) (marker 2), entry_of (event.start (named LITERAL) 2 false) ∷ entry_of event.finish ∷ entry_of (event.start spent 0 true) ∷ [])
unfolding ran
kept_parent = refl

-- a float that ends in a dot, and one that does not
split_dot_lem : ran (lent (FLOAT_NUMBER ∷ []) (0 ∷ [])) (start λ m. split m give never) 4 ≡ (fine (at 1 3) (completed 0), entry_of (event.start (named FIELD_EXPR) 0 false) ∷ entry_of (event.split true) ∷ entry_of event.finish ∷ 0 ∷ [])
unfolding ran
split_dot_lem = refl

split_two_lem : ran (lent (FLOAT_NUMBER ∷ []) (1 ∷ [])) (start λ m. split m give never) 4 ≡ (fine (at 1 4) (completed 1), entry_of (event.start (named FIELD_EXPR) 1 false) ∷ entry_of (event.start (named FIELD_EXPR) 0 false) ∷ entry_of (event.split false) ∷ entry_of event.finish ∷ [])
unfolding ran
split_two_lem = refl

-- 4: room for two of its three events is none
split_full : ran (lent (FLOAT_NUMBER ∷ []) (1 ∷ [])) (start λ m. split m give never) 3 ≡ (bad (refusal EVENTS_FULL 0), entry_of (event.start live 0 false) ∷ 0 ∷ 0 ∷ [])
unfolding ran
split_full = refl

-- `..=` is taken whole where its parts touch, and not where they do not
glued : ran (lent (DOT ∷ DOT ∷ EQ ∷ []) (1 ∷ 1 ∷ 0 ∷ [])) (eat DOT2EQ (give true) (give false)) 1 ≡ (fine (at 3 1) true, entry_of (event.token DOT2EQ 3) ∷ [])
unfolding ran
glued = refl

apart : ran (lent (DOT ∷ DOT ∷ EQ ∷ []) (1 ∷ 0 ∷ 0 ∷ [])) (eat DOT2EQ (give true) (eat DOT2 (give false) never)) 1 ≡ (fine (at 2 1) false, entry_of (event.token DOT2 2) ∷ [])
unfolding ran
apart = refl

-- 8: a closed marker is not completed again, nor extended to itself; a marker with a forward parent gets no second one
closed_again : ran none (start λ o. complete o LITERAL λ _. complete o LITERAL give) 4 ≡ (bad (refusal UNFIT 0), entry_of (event.start (named LITERAL) 0 false) ∷ entry_of event.finish ∷ 0 ∷ 0 ∷ [])
unfolding ran
closed_again = refl

two_parents : ran none (start λ o. complete o LITERAL λ c. precede c λ _. precede c give) 4 ≡ (bad (refusal UNFIT 0), entry_of (event.start (named LITERAL) 2 false) ∷ entry_of event.finish ∷ entry_of (event.start live 0 true) ∷ 0 ∷ [])
unfolding ran
two_parents = refl

-- the public calls in the order 3, 9, 1, 2, 8, 4, each on a list that the later ones would refuse too
unfoldable pub taking : Tokens → State → ℕ → List ℕ → Taken × List ℕ
unfolding whether bound token_limit width_limit stands glued_table row_of is_glued row_parts parts_of width_of follow present is_raw is_joint is_kind first_off lengths_of bytes_of on_checked ahead event_limit capacity_of in_range room_for eat_of range_of looked_of calling eat_call
taking ts s kind ev = eat_call ts s kind ev

three : taking (lent (30 ∷ []) []) (at 2 2) 0 [] ≡ (Err (refusal BAD_LENGTH 0), [])
unfolding taking
three = refl

nine : taking (lent (30 ∷ []) (2 ∷ [])) (at 0 2) 0 [] ≡ (Err (refusal UNSOUND 0), [])
unfolding taking
nine = refl

nine_position : taking (lent (30 ∷ []) (2 ∷ [])) (at 2 0) 0 [] ≡ (Err (refusal UNSOUND 0), [])
unfolding taking
nine_position = refl

one : taking (lent (IDENT ∷ 30 ∷ []) (2 ∷ 0 ∷ [])) (at 0 0) 0 [] ≡ (Err (refusal BAD_KIND 1), [])
unfolding taking
one = refl

two : taking (lent (IDENT ∷ IDENT ∷ []) (0 ∷ 2 ∷ [])) (at 0 0) 0 [] ≡ (Err (refusal BAD_JOINT 1), [])
unfolding taking
two = refl

eight : taking (lent (IDENT ∷ []) (0 ∷ [])) (at 0 0) 0 [] ≡ (Err (refusal UNFIT 0), [])
unfolding taking
eight = refl

four : taking (lent (IDENT ∷ []) (0 ∷ [])) (at 0 0) IDENT [] ≡ (Err (refusal EVENTS_FULL 0), [])
unfolding taking
four = refl

-- "A take that answers no on a full list is no 4"
no_four : taking (lent (IDENT ∷ []) (0 ∷ [])) (at 0 0) DOT [] ≡ (Ok None, [])
unfolding taking
no_four = refl

-- only the three tokens from the position on are looked at
beyond : taking (lent (IDENT ∷ IDENT ∷ IDENT ∷ 30 ∷ []) (0 ∷ 0 ∷ 0 ∷ 2 ∷ [])) (at 0 0) IDENT (0 ∷ []) ≡ (Ok (Some (at 1 1)), entry_of (event.token IDENT 1) ∷ [])
unfolding taking
beyond = refl
