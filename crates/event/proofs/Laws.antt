-- The laws of the event record: the parts of an entry, what the entries that calls write are seen as, that they decode, and that an event is what its entry is seen as. By arithmetic on the places of an entry's parts. Assumes nothing.
use mathlib.Core.Path.{◌≡◌, refl, sym, ap, ◌∙◌}
use mathlib.Core.List.{List}
use mathlib.Core.Bool.{Bool, true, false, false≢true}
use Prim.Native.Nat.{ℕ, zero, suc, ◌≤◌, ◌<◌, min}
use native.Mathlib.Omega.{arith}
use lib.ListN.{length}
use lib.Dec.{ltb, leb, eqb}
use borrow.Author.Tests.{lt-ltb, le-leb, lt-leb, leb-true, ltb-true, ltb-false, eqb-true, eqb-false, eq-eqb, ne_eqb}
use Rattle.base.specs.Base.{whether}
use Rattle.base.proofs.Cases.{whether_by}
use Rattle.event.specs.declared.State.{State}
use Rattle.event.specs.Event.{Status, live, spent, named, Event, start, finish, token, split, error, START, FINISH, TOKEN_TAG, SPLIT_TAG, ERROR_TAG, LIVE, SPENT, NAMED, tag_of, rank_of, flag_of, node_of, offset_of, entry, status_of, view, flag_by, entry_of, decodes, start_entry, preceding_entry, field_entry, finish_entry, token_entry, split_entry, error_entry, named_entry, spent_entry, extended_entry, parented_entry, is_live, is_named, event_limit, capacity_of, in_range}

-- the parts of an entry that is made of them
module _ (tag rank flag node offset : ℕ) (ht : tag < 8) (hr : rank < 4) (hf : flag < 2) (hn : node < 256) where
  pub tag_entry : tag_of (entry tag rank flag node offset) ≡ tag
  tag_entry = omega arith

  pub rank_entry : rank_of (entry tag rank flag node offset) ≡ rank
  rank_entry = omega arith

  pub flag_entry : flag_of (entry tag rank flag node offset) ≡ flag
  flag_entry = omega arith

  pub node_entry : node_of (entry tag rank flag node offset) ≡ node
  node_entry = omega arith

  pub offset_entry : offset_of (entry tag rank flag node offset) ≡ offset
  offset_entry = omega arith

-- how far a part goes
module _ (x : ℕ) where
  pub tag_below : tag_of x < 8
  tag_below = omega arith

  pub rank_below : rank_of x < 4
  rank_below = omega arith

  pub flag_below : flag_of x < 2
  flag_below = omega arith

  pub node_below : node_of x < 256
  node_below = omega arith

-- a flag is the flag of what it says
pub flag_by_lem : (flag : ℕ) → flag < 2 → flag_by (eqb flag 1) ≡ flag
flag_by_lem flag h = go (eqb flag 1) refl
  where
    go : (b : Bool) → eqb flag 1 ≡ b → flag_by (eqb flag 1) ≡ flag
    go true q = rw q (sym (eqb-true flag 1 q))
    go false q = rw q (omega (arith, eqb-false flag 1 q))

pub by_flag : (b : Bool) → eqb (flag_by b) 1 ≡ b
by_flag true = refl
by_flag false = refl

pub flag_by_below : (b : Bool) → flag_by b < 2
flag_by_below true = omega arith
flag_by_below false = omega arith

-- what an entry of each tag is seen as
pub view_start : (x : ℕ) → tag_of x ≡ START → view x ≡ start (status_of (rank_of x) (node_of x)) (offset_of x) (eqb (flag_of x) 1)
unfolding view whether
view_start x t = rw (eq-eqb (tag_of x) START t)

pub view_token : (x : ℕ) → tag_of x ≡ TOKEN_TAG → view x ≡ token (node_of x) (rank_of x)
unfolding view whether
view_token x t = rw t

pub view_split : (x : ℕ) → tag_of x ≡ SPLIT_TAG → view x ≡ split (eqb (flag_of x) 1)
unfolding view whether
view_split x t = rw t

pub view_error : (x : ℕ) → tag_of x ≡ ERROR_TAG → view x ≡ error (node_of x)
unfolding view whether
view_error x t = rw t

pub view_finish : (x : ℕ) → (tag_of x ≡ START → ⊥) → (tag_of x ≡ TOKEN_TAG → ⊥) → (tag_of x ≡ SPLIT_TAG → ⊥) → (tag_of x ≡ ERROR_TAG → ⊥) → view x ≡ finish
unfolding view whether
view_finish x a b c d = rw (ne_eqb (tag_of x) START a, ne_eqb (tag_of x) TOKEN_TAG b, ne_eqb (tag_of x) SPLIT_TAG c, ne_eqb (tag_of x) ERROR_TAG d)

-- an event whose parts fit their places in an entry
abbrev pub Fits : Event → Type 0
Fits (start live offset preceding) = Unit
Fits (start spent offset preceding) = Unit
Fits (start (named node) offset preceding) = node < 256
Fits finish = Unit
Fits (token kind width) = (kind < 256) × (width < 4)
Fits (split dot) = Unit
Fits (error code) = code < 256

view_of : (rank flag node offset : ℕ) → rank < 4 → flag < 2 → node < 256 → view (entry START rank flag node offset) ≡ start (status_of rank node) offset (eqb flag 1)
view_of rank flag node offset hr hf hn =
    view_start (entry START rank flag node offset) (tag_entry START rank flag node offset (omega arith) hr hf hn)
    ∙ rw (rank_entry START rank flag node offset (omega arith) hr hf hn, flag_entry START rank flag node offset (omega arith) hr hf hn, node_entry START rank flag node offset (omega arith) hr hf hn, offset_entry START rank flag node offset (omega arith) hr hf hn)

-- an event is what its entry is seen as
pub view_entry : (e : Event) → Fits e → view (entry_of e) ≡ e
unfolding status_of whether
view_entry (start live offset b) f = view_of LIVE (flag_by b) 0 offset (omega arith) (flag_by_below b) (omega arith) ∙ rw by_flag
view_entry (start spent offset b) f = view_of SPENT (flag_by b) 0 offset (omega arith) (flag_by_below b) (omega arith) ∙ rw by_flag
view_entry (start (named node) offset b) f = view_of NAMED (flag_by b) node offset (omega arith) (flag_by_below b) f ∙ rw by_flag
view_entry finish f = view_finish FINISH (λ q. omega arith) (λ q. omega arith) (λ q. omega arith) (λ q. omega arith)
view_entry (token kind width) f =
    view_token (token_entry kind width) (tag_entry TOKEN_TAG width 0 kind 0 (omega arith) f.1 (omega arith) f.0)
    ∙ rw (node_entry TOKEN_TAG width 0 kind 0 (omega arith) f.1 (omega arith) f.0, rank_entry TOKEN_TAG width 0 kind 0 (omega arith) f.1 (omega arith) f.0)
view_entry (split b) f =
    view_split (split_entry (flag_by b)) (tag_entry SPLIT_TAG 0 (flag_by b) 0 0 (omega arith) (omega arith) (flag_by_below b) (omega arith))
    ∙ rw (flag_entry SPLIT_TAG 0 (flag_by b) 0 0 (omega arith) (omega arith) (flag_by_below b) (omega arith), by_flag)
view_entry (error code) f =
    view_error (error_entry code) (tag_entry ERROR_TAG 0 0 code 0 (omega arith) (omega arith) (omega arith) f)
    ∙ rw (node_entry ERROR_TAG 0 0 code 0 (omega arith) (omega arith) (omega arith) f)

pub decodes_entry : (e : Event) → Fits e → decodes (entry_of e) ≡ true
unfolding decodes
decodes_entry e f = rw (view_entry e f) (eq-eqb (entry_of e) (entry_of e) refl)

-- an entry that decodes is the entry of what it is seen as
pub decoded : (x : ℕ) → decodes x ≡ true → x ≡ entry_of (view x)
unfolding decodes
decoded x q = eqb-true x (entry_of (view x)) q

-- an entry that no call writes
pub view_zero : view 0 ≡ finish
unfolding view whether
view_zero = refl

pub decodes_zero : decodes 0 ≡ false
unfolding decodes view whether
decodes_zero = refl

-- what calls write: new entries
pub view_start_entry : view start_entry ≡ start live 0 false
view_start_entry = view_entry (start live 0 false) tt

pub view_preceding_entry : view preceding_entry ≡ start live 0 true
view_preceding_entry = view_entry (start live 0 true) tt

pub view_field_entry : (node : ℕ) → node < 256 → view (field_entry node) ≡ start (named node) 0 false
view_field_entry node h = view_entry (start (named node) 0 false) h

pub view_finish_entry : view finish_entry ≡ finish
view_finish_entry = view_entry finish tt

pub view_token_entry : (kind width : ℕ) → kind < 256 → width < 4 → view (token_entry kind width) ≡ token kind width
view_token_entry kind width hk hw = view_entry (token kind width) (hk, hw)

pub view_split_entry : (dot : Bool) → view (split_entry (flag_by dot)) ≡ split dot
view_split_entry dot = view_entry (split dot) tt

pub view_error_entry : (code : ℕ) → code < 256 → view (error_entry code) ≡ error code
view_error_entry code h = view_entry (error code) h

pub decodes_start_entry : decodes start_entry ≡ true
decodes_start_entry = decodes_entry (start live 0 false) tt

pub decodes_preceding_entry : decodes preceding_entry ≡ true
decodes_preceding_entry = decodes_entry (start live 0 true) tt

pub decodes_field_entry : (node : ℕ) → node < 256 → decodes (field_entry node) ≡ true
decodes_field_entry node h = decodes_entry (start (named node) 0 false) h

pub decodes_finish_entry : decodes finish_entry ≡ true
decodes_finish_entry = decodes_entry finish tt

pub decodes_token_entry : (kind width : ℕ) → kind < 256 → width < 4 → decodes (token_entry kind width) ≡ true
decodes_token_entry kind width hk hw = decodes_entry (token kind width) (hk, hw)

pub decodes_split_entry : (dot : Bool) → decodes (split_entry (flag_by dot)) ≡ true
decodes_split_entry dot = decodes_entry (split dot) tt

pub decodes_error_entry : (code : ℕ) → code < 256 → decodes (error_entry code) ≡ true
decodes_error_entry code h = decodes_entry (error code) h

-- and changed ones, which keep the flag of x: each is the entry of the event that it should be
flag_is : (x : ℕ) → flag_by (eqb (flag_of x) 1) ≡ flag_of x
flag_is x = flag_by_lem (flag_of x) (flag_below x)

module _ (x node : ℕ) (h : node < 256) where
  pub view_named_entry : view (named_entry x node) ≡ start (named node) (offset_of x) (eqb (flag_of x) 1)
  unfolding status_of whether
  view_named_entry = view_of NAMED (flag_of x) node (offset_of x) (omega arith) (flag_below x) h

  pub decodes_named_entry : decodes (named_entry x node) ≡ true
  decodes_named_entry = rw flag_is at (decodes_entry (start (named node) (offset_of x) (eqb (flag_of x) 1)) h)

  pub view_parented_entry : (offset : ℕ) → view (parented_entry x node offset) ≡ start (named node) offset (eqb (flag_of x) 1)
  unfolding status_of whether
  view_parented_entry offset = view_of NAMED (flag_of x) node offset (omega arith) (flag_below x) h

  pub decodes_parented_entry : (offset : ℕ) → decodes (parented_entry x node offset) ≡ true
  decodes_parented_entry offset = rw flag_is at (decodes_entry (start (named node) offset (eqb (flag_of x) 1)) h)

module _ (x : ℕ) where
  pub view_extended_entry : (offset : ℕ) → view (extended_entry x offset) ≡ start spent offset (eqb (flag_of x) 1)
  unfolding status_of whether
  view_extended_entry offset = view_of SPENT (flag_of x) 0 offset (omega arith) (flag_below x) (omega arith)

  pub decodes_extended_entry : (offset : ℕ) → decodes (extended_entry x offset) ≡ true
  decodes_extended_entry offset = rw flag_is at (decodes_entry (start spent offset (eqb (flag_of x) 1)) tt)

  pub view_spent_entry : view (spent_entry x) ≡ start spent (offset_of x) (eqb (flag_of x) 1)
  view_spent_entry = view_extended_entry (offset_of x)

  pub decodes_spent_entry : decodes (spent_entry x) ≡ true
  decodes_spent_entry = decodes_extended_entry (offset_of x)

-- a live start and a named one, and what they are seen as
both : (a b : ℕ) (c : Bool) → whether (eqb a b) (λ _. c) (λ _. false) ≡ true → (a ≡ b) × (c ≡ true)
both a b c = whether_by (λ z. z ≡ true → (a ≡ b) × (c ≡ true)) (eqb a b) (λ _. c) (λ _. false) (λ p q. (eqb-true a b p, q)) (λ p q. absurd (false≢true q))

module _ (x : ℕ) where
  pub live_parts : is_live x ≡ true → (tag_of x ≡ START) × (rank_of x ≡ LIVE)
  unfolding is_live
  live_parts q = let t = both (tag_of x) START (eqb (rank_of x) LIVE) q in (t.0, eqb-true (rank_of x) LIVE t.1)

  pub named_parts : is_named x ≡ true → (tag_of x ≡ START) × (rank_of x ≡ NAMED)
  unfolding is_named
  named_parts q = let t = both (tag_of x) START (eqb (rank_of x) NAMED) q in (t.0, eqb-true (rank_of x) NAMED t.1)

  pub live_view : is_live x ≡ true → view x ≡ start live (offset_of x) (eqb (flag_of x) 1)
  unfolding status_of whether
  live_view q = view_start x (live_parts q).0 ∙ rw (live_parts q).1

  pub named_view : is_named x ≡ true → view x ≡ start (named (node_of x)) (offset_of x) (eqb (flag_of x) 1)
  unfolding status_of whether
  named_view q = view_start x (named_parts q).0 ∙ rw (named_parts q).1

-- and back: only a start is seen as a start, with its own parts
module _ (x : ℕ) where
  start_seen : (st : Status) (offset : ℕ) (b : Bool) → view x ≡ start st offset b → (tag_of x ≡ START) × (status_of (rank_of x) (node_of x) ≡ st) × (offset_of x ≡ offset) × (eqb (flag_of x) 1 ≡ b)
  unfolding view
  start_seen st offset b =
      whether_by P (eqb (tag_of x) START) _ _ (λ t q. (eqb-true (tag_of x) START t, (cc), (cc), (cc))) λ _.
      whether_by P (eqb (tag_of x) TOKEN_TAG) _ _ (λ _ q. let z : ◌≡◌ {A = ℕ} 0 1 = cc in absurd (omega arith)) λ _.
      whether_by P (eqb (tag_of x) SPLIT_TAG) _ _ (λ _ q. let z : ◌≡◌ {A = ℕ} 0 1 = cc in absurd (omega arith)) λ _.
      whether_by P (eqb (tag_of x) ERROR_TAG) _ _ (λ _ q. let z : ◌≡◌ {A = ℕ} 0 1 = cc in absurd (omega arith)) (λ _ q. let z : ◌≡◌ {A = ℕ} 0 1 = cc in absurd (omega arith))
    where
      P : Event → Type 0
      P e = e ≡ start st offset b → (tag_of x ≡ START) × (status_of (rank_of x) (node_of x) ≡ st) × (offset_of x ≡ offset) × (eqb (flag_of x) 1 ≡ b)

status_live : (rank node : ℕ) → status_of rank node ≡ live → rank ≡ LIVE
unfolding status_of
status_live rank node =
    whether_by (λ z. z ≡ live → rank ≡ LIVE) (ltb SPENT rank) _ _ (λ _ q. let z : ◌≡◌ {A = ℕ} 0 1 = cc in absurd (omega arith)) λ _.
    whether_by (λ z. z ≡ live → rank ≡ LIVE) (eqb rank LIVE) _ _ (λ p q. eqb-true rank LIVE p) (λ _ q. let z : ◌≡◌ {A = ℕ} 0 1 = cc in absurd (omega arith))

module _ (x offset : ℕ) (b : Bool) where
  pub view_live : view x ≡ start live offset b → is_live x ≡ true
  unfolding is_live whether
  view_live q =
      let t = start_seen x live offset b q in
      rw (eq-eqb (tag_of x) START t.0) (eq-eqb (rank_of x) LIVE (status_live (rank_of x) (node_of x) t.1))

  -- (a rank that no call writes is seen as a name too, and does not decode)
  pub view_named : (node : ℕ) → node < 256 → decodes x ≡ true → view x ≡ start (named node) offset b → is_named x ≡ true
  unfolding is_named whether
  view_named node h d q =
      let e : x ≡ entry START NAMED (flag_by b) node offset = decoded x d ∙ ap entry_of q in
      let t = start_seen x (named node) offset b q in
      rw (eq-eqb (tag_of x) START t.0) (eq-eqb (rank_of x) NAMED (ap rank_of e ∙ rank_entry START NAMED (flag_by b) node offset (omega arith) (omega arith) (flag_by_below b) h))

-- the entry made again from its parts is the entry of what it is seen as, each answer of the code that makes it
again_go : (x rank : ℕ) → rank < 2 → entry START rank (flag_of x) 0 (offset_of x) ≡ entry_of (start (status_of rank (node_of x)) (offset_of x) (eqb (flag_of x) 1))
unfolding status_of whether
again_go x zero h = rw flag_is
again_go x (suc zero) h = rw flag_is
again_go x (suc (suc rank)) h = absurd (omega arith)

module _ (x : ℕ) {r : ℕ} where
  pub again_named : {rank flag node offset : ℕ} → r ≡ entry START NAMED flag node offset → tag_of x ≡ START → rank ≡ rank_of x → SPENT < rank → flag ≡ flag_of x → node ≡ node_of x → offset ≡ offset_of x → r ≡ entry_of (view x)
  unfolding status_of whether
  again_named {rank} e t k l f n o = e ∙ rw (f, n, o, view_start x t, lt-ltb SPENT (rank_of x) (omega arith), flag_is)

  pub again_open : {rank flag offset : ℕ} → r ≡ entry START rank flag 0 offset → tag_of x ≡ START → rank ≡ rank_of x → rank ≤ SPENT → flag ≡ flag_of x → offset ≡ offset_of x → r ≡ entry_of (view x)
  again_open {rank} e t k l f o = e ∙ rw (f, o, view_start x t, ← k) (again_go x rank (omega arith))

  pub again_token : {tag rank node : ℕ} → r ≡ entry TOKEN_TAG rank 0 node 0 → tag ≡ tag_of x → tag ≡ TOKEN_TAG → rank ≡ rank_of x → node ≡ node_of x → r ≡ entry_of (view x)
  again_token e p t k n = e ∙ rw (k, n, view_token x (sym p ∙ t))

  pub again_split : {tag flag : ℕ} → r ≡ entry SPLIT_TAG 0 flag 0 0 → tag ≡ tag_of x → tag ≡ SPLIT_TAG → flag ≡ flag_of x → r ≡ entry_of (view x)
  again_split e p t f = e ∙ rw (f, view_split x (sym p ∙ t), flag_is)

  pub again_error : {tag node : ℕ} → r ≡ entry ERROR_TAG 0 0 node 0 → tag ≡ tag_of x → tag ≡ ERROR_TAG → node ≡ node_of x → r ≡ entry_of (view x)
  again_error e p t n = e ∙ rw (n, view_error x (sym p ∙ t))

pub again_finish : (x : ℕ) {tag : ℕ} → tag ≡ tag_of x → (tag ≡ START → ⊥) → (tag ≡ TOKEN_TAG → ⊥) → (tag ≡ SPLIT_TAG → ⊥) → (tag ≡ ERROR_TAG → ⊥) → FINISH ≡ entry_of (view x)
again_finish x p a b c d = rw (view_finish x (λ q. a (p ∙ q)) (λ q. b (p ∙ q)) (λ q. c (p ∙ q)) (λ q. d (p ∙ q)))

-- a test of a start's rank, by what the code has for the tag and the rank
module _ (x k : ℕ) where
  pub rank_test : {tag rank : ℕ} → tag ≡ tag_of x → tag ≡ START → rank ≡ rank_of x → eqb rank k ≡ whether (eqb (tag_of x) START) (λ _. eqb (rank_of x) k) (λ _. false)
  unfolding whether
  rank_test p t q = rw (sym p ∙ t, q)

  pub no_start : {tag : ℕ} → tag ≡ tag_of x → (tag ≡ START → ⊥) → eqb tag START ≡ whether (eqb (tag_of x) START) (λ _. eqb (rank_of x) k) (λ _. false)
  unfolding whether
  no_start {tag} p t = rw (← p, ne_eqb tag START t)

-- a count in range is within the list and within the limit
pub capacity_within : (ev : List ℕ) → (capacity_of ev ≤ length ev) × (capacity_of ev ≤ event_limit)
unfolding capacity_of
capacity_within ev =
    whether_by (λ z. (z ≤ length ev) × (z ≤ event_limit)) (ltb (length ev) event_limit) _ _
    (λ p. (omega arith, omega (arith, ltb-true (length ev) event_limit p)))
    (λ p. (omega (arith, ltb-false (length ev) event_limit p), omega arith))

pub in_range_count : (n : ℕ) (s : State) (ev : List ℕ) → in_range n s ev ≡ true → (s.count ≤ length ev) × (s.count ≤ event_limit)
unfolding in_range
in_range_count n s ev =
    whether_by (λ z. z ≡ true → (s.count ≤ length ev) × (s.count ≤ event_limit)) (leb s.count (capacity_of ev)) _ _
    (λ p q. let h = leb-true s.count (capacity_of ev) p in (omega (arith, (capacity_within ev).0, h), omega (arith, (capacity_within ev).1, h)))
    (λ p q. absurd (false≢true q))

-- the capacity is the less of the two, and a state in range, by what the code has for the capacity
pub capacity_is : (ev : List ℕ) → min (length ev) event_limit ≡ capacity_of ev
unfolding capacity_of
capacity_is ev =
    whether_by (λ z. min (length ev) event_limit ≡ z) (ltb (length ev) event_limit) _ _
    (λ p. omega (arith, ltb-true (length ev) event_limit p))
    (λ p. omega (arith, ltb-false (length ev) event_limit p))

module _ (n : ℕ) (s : State) (ev : List ℕ) {room : ℕ} (p : room ≡ capacity_of ev) where
  pub within : s.count ≤ room → leb s.pos.0 n ≡ in_range n s ev
  unfolding in_range whether
  within h = rw (← p, le-leb s.count room h)

  pub out_of : room < s.count → leb s.count room ≡ in_range n s ev
  unfolding in_range whether
  out_of h = rw (← p, lt-leb s.count room h)
