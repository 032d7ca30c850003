-- What every run keeps (`Good`), and three lemmas that carry it over every call: a start changed and events pushed, nothing pushed, the last start popped. Assumes nothing.
use mathlib.Core.Path.{◌≡◌, refl, sym, ap, subst, ◌∙◌}
use mathlib.Core.Bool.{Bool, true, false, false≢true}
use mathlib.Core.List.{List, [], ◌∷◌, ◌++◌, append-nil}
use Prim.Native.Nat.{ℕ, zero, suc, ◌+◌, ◌-◌, ◌<◌}
use native.Mathlib.Omega.{arith}
use native.Mathlib.Nat.{sub-zero, suc-sub-suc}
use lib.ListN.{length, get_or, set, take, drop, drop_of_length-le}
use lib.Seq.{split_at, get_or-append_seam}
use Rattle.demand.specs.Lists.{tally, gather}
use Rattle.demand.proofs.Sums.{Above, tally_append, tally_set, gather_append, gather_set, above_more, above_append, above_set, above_init}
use Rattle.event.specs.Event.{Status, live, Event, start, finish}
use Rattle.demand.specs.Runs.{Tok}
use Rattle.input.specs.Input.{Tokens}
use Rattle.demand.proofs.Events.{History, quiet, is_split, is_finish, next, Follows, Paired, Anchored, Lands, Linked}
use Rattle.demand.specs.Demand.{Covers}
use Rattle.demand.proofs.Pass.{name_of}
use Rattle.demand.proofs.Tokens.{covers_append}
use Rattle.demand.proofs.Chain.{weigh, ups, downs, tok_e}

-- every state of a run is so
pub record Good (ts : Tokens) (r : History) : Type 0 where
  pub toks : gather tok_e r.events ≡ r.took
  pub covers : Covers ts 0 r.took r.pos
  pub named : (h : ℕ → ℕ) → tally (weigh h) r.events ≡ tally h r.closed
  pub even : tally downs r.events ≡ tally ups r.events
  pub above : Above ups downs 0 0 r.events
  pub paired : Paired r.events
  pub linked : Linked r.events

-- where a start is found, the index is in the list
pub in_range_lem : (es : List Event) (m : ℕ) (s : Status) (f : ℕ) (b : Bool) → get_or es m finish ≡ start s f b → m < length es
in_range_lem [] m s f b q = let z : ◌≡◌ {A = ℕ} 0 1 = cc in absurd (omega arith)
in_range_lem (e ∷ es) zero s f b q = omega arith
in_range_lem (e ∷ es) (suc m) s f b q = omega (arith, in_range_lem es m s f b q)

-- pairs of split and finish
follows_append : (c : Bool) (es fs : List Event) → Follows c es → Follows c (es ++ fs)
follows_append false es fs p = tt
follows_append true [] fs p = absurd p
follows_append true (e ∷ es) fs p = p

paired_append : (es fs : List Event) → Paired es → Paired fs → Paired (es ++ fs)
paired_append [] fs p q = q
paired_append (e ∷ es) fs p q = (follows_append (is_split e) es fs p.0, paired_append es fs p.1 q)

follows_set : (c : Bool) (es : List Event) (m : ℕ) (s t : Status) (f g : ℕ) (b d : Bool) → get_or es m finish ≡ start s f b → Follows c es → Follows c (set es m (start t g d))
follows_set false es m s t f g b d q p = tt
follows_set true [] m s t f g b d q p = p
follows_set true (e ∷ es) zero s t f g b d q p = ap is_finish (sym q) ∙ p
follows_set true (e ∷ es) (suc m) s t f g b d q p = p

paired_set : (es : List Event) (m : ℕ) (s t : Status) (f g : ℕ) (b d : Bool) → get_or es m finish ≡ start s f b → Paired es → Paired (set es m (start t g d))
paired_set [] m s t f g b d q p = tt
paired_set (e ∷ es) zero s t f g b d q p = (tt, p.1)
paired_set (e ∷ es) (suc m) s t f g b d q p = (follows_set (is_split e) es m s t f g b d q p.0, paired_set es m s t f g b d q p.1)

follows_init : (c : Bool) (es : List Event) (e : Event) → is_finish e ≡ false → Follows c (es ++ (e ∷ [])) → Follows c es
follows_init false es e q p = tt
follows_init true [] e q p = false≢true (sym q ∙ p)
follows_init true (x ∷ es) e q p = p

paired_init : (es : List Event) (e : Event) → is_finish e ≡ false → Paired (es ++ (e ∷ [])) → Paired es
paired_init [] e q p = tt
paired_init (x ∷ es) e q p = (follows_init (is_split x) es e q p.0, paired_init es e q p.1)

-- forward parents
anchored_append : (es fs : List Event) (i : ℕ) → Anchored (get_or es i finish) → Anchored (get_or (es ++ fs) i finish)
anchored_append [] fs i a = absurd a
anchored_append (e ∷ es) fs zero a = a
anchored_append (e ∷ es) fs (suc i) a = anchored_append es fs i a

anchored_set : (es : List Event) (m i : ℕ) (e : Event) → (Anchored (get_or es m finish) → Anchored e) → Anchored (get_or es i finish) → Anchored (get_or (set es m e) i finish)
anchored_set [] m i e k a = a
anchored_set (x ∷ es) zero zero e k a = k a
anchored_set (x ∷ es) zero (suc i) e k a = a
anchored_set (x ∷ es) (suc m) zero e k a = a
anchored_set (x ∷ es) (suc m) (suc i) e k a = anchored_set es m i e k a

anchored_init : (es : List Event) (e : Event) (i : ℕ) → (Anchored e → ⊥) → Anchored (get_or (es ++ (e ∷ [])) i finish) → Anchored (get_or es i finish)
anchored_init [] e zero k a = k a
anchored_init [] e (suc i) k a = a
anchored_init (x ∷ es) e zero k a = a
anchored_init (x ∷ es) e (suc i) k a = anchored_init es e i k a

pub lands_append : (f : ℕ) (es fs : List Event) → Lands f es → Lands f (es ++ fs)
lands_append zero es fs a = tt
lands_append (suc f) es fs a = anchored_append es fs f a

lands_set : (f : ℕ) (es : List Event) (m : ℕ) (e : Event) → (Anchored (get_or es m finish) → Anchored e) → Lands f es → Lands f (set es m e)
lands_set zero es m e k a = tt
lands_set (suc f) es m e k a = anchored_set es m f e k a

lands_init : (f : ℕ) (es : List Event) (e : Event) → (Anchored e → ⊥) → Lands f (es ++ (e ∷ [])) → Lands f es
lands_init zero es e k a = tt
lands_init (suc f) es e k a = anchored_init es e f k a

pub linked_append : (es fs : List Event) → Linked es → Linked fs → Linked (es ++ fs)
linked_append [] fs p q = q
linked_append (e ∷ es) fs p q = (lands_append (next e) es fs p.0, linked_append es fs p.1 q)

pub linked_set : (es fs : List Event) (m : ℕ) (e : Event) → (Anchored (get_or es m finish) → Anchored e) → Lands (next e) (drop (suc m) es ++ fs) → Linked es → Linked fs → Linked (set es m e ++ fs)
linked_set [] fs m e k a p q = q
linked_set (x ∷ es) fs zero e k a p q = (a, linked_append es fs p.1 q)
linked_set (x ∷ es) fs (suc m) e k a p q = (lands_append (next x) (set es m e) fs (lands_set (next x) es m e k p.0), linked_set es fs m e k a p.1 q)

linked_init : (es : List Event) (e : Event) → (Anchored e → ⊥) → Linked (es ++ (e ∷ [])) → Linked es
linked_init [] e k p = tt
linked_init (x ∷ es) e k p = (lands_init (next x) es e k p.0, linked_init es e k p.1)

-- the list before what is pushed: the old one, or the old one with a start changed, which closes ks
pub record Mid (es mid : List Event) (ks : List ℕ) : Type 0 where
  pub toks : gather tok_e mid ≡ gather tok_e es
  pub named : (h : ℕ → ℕ) → tally (weigh h) mid ≡ tally (weigh h) es + tally h ks
  pub downs_same : tally downs mid ≡ tally downs es
  pub above : Above ups downs 0 0 es → Above ups downs 0 0 mid
  pub paired : Paired es → Paired mid

pub mid_same : (es : List Event) → Mid es es []
mid_same es = record { toks = refl; named = λ h. omega arith; downs_same = refl; above = λ s. s; paired = λ p. p }

pub mid_set : (es : List Event) (m : ℕ) (s t : Status) (f g : ℕ) (b d : Bool) (ks : List ℕ) → get_or es m finish ≡ start s f b → name_of t ≡ name_of s ++ ks → Mid es (set es m (start t g d)) ks
mid_set es m s t f g b d ks q n = record {
  toks = gather_set tok_e es m (start t g d) finish (ap tok_e (sym q));
  named = λ h. omega (arith, tally_set (weigh h) es m (start t g d) finish i, ap (weigh h) q, ap (tally h) n, tally_append h (name_of s) ks);
  downs_same = omega (arith, tally_set downs es m (start t g d) finish i, ap downs q);
  above = λ a. above_set ups downs 0 0 es m (start t g d) finish (omega (arith, ap ups q, ap (tally (λ _. 1)) n, tally_append (λ _. 1) (name_of s) ks)) (ap downs (sym q)) a;
  paired = λ p. paired_set es m s t f g b d q p;
}
  where
    i : m < length es
    i = in_range_lem es m s f b q

-- the state after an accepted call
abbrev pub after : History → History → History
after r c = record { events = c.events; pos = c.pos; took = r.took ++ c.took; closed = r.closed ++ c.closed }

module _ (ts : Tokens) (r : History) (good : Good ts r) where
  -- a start changed or not, then events pushed
  pub grow : (mid fs : List Event) (p : ℕ) (t : List Tok) (ks ls : List ℕ) → Mid r.events mid ks → Linked (mid ++ fs) → gather tok_e fs ≡ t → Covers ts r.pos t p
      → ((h : ℕ → ℕ) → tally (weigh h) fs ≡ tally h ls) → tally downs fs ≡ tally (λ _. 1) ks + tally (λ _. 1) ls → ((a : ℕ) → Above ups downs (a + tally (λ _. 1) ks) a fs) → Paired fs
      → Good ts (after r (record { events = mid ++ fs; pos = p; took = t; closed = ks ++ ls }))
  grow mid fs p t ks ls c l k v n d a q = record {
    toks = gather_append tok_e mid fs ∙ rw (c.toks, good.toks, k);
    covers = covers_append ts 0 r.pos p r.took t good.covers v;
    named = λ h. simp tally_append (omega (arith, c.named h, good.named h, n h));
    even = simp tally_append (omega (arith, c.named (λ _. 1), c.downs_same, good.even, n (λ _. 1)));
    above = above_append ups downs 0 0 mid fs (c.above good.above)
        (above_more ups downs (tally downs r.events + tally (λ _. 1) ks) (tally downs r.events) _ _ fs (omega (arith, c.named (λ _. 1), good.even)) (omega (arith, c.downs_same)) (a (tally downs r.events)));
    paired = paired_append mid fs (c.paired good.paired) q;
    linked = l;
  }

  -- a start changed, and nothing pushed or closed
  pub still : (mid : List Event) → Mid r.events mid [] → Linked (mid ++ []) → Good ts (after r (quiet r.pos mid))
  still mid c l = rw append-nil at (grow mid [] r.pos [] [] [] c l refl refl (λ h. refl) refl (λ a. omega arith) tt)

  -- the last start popped
  pub pop : (xs : List Event) (f : ℕ) → r.events ≡ xs ++ (start live f false ∷ []) → Good ts (after r (quiet r.pos xs))
  pop xs f q = record {
    toks = sym (append-nil (gather tok_e xs)) ∙ sym (gather_append tok_e xs (start live f false ∷ [])) ∙ ap (gather tok_e) (sym q) ∙ good.toks ∙ sym (append-nil r.took);
    covers = rw append-nil good.covers;
    named = λ h. rw append-nil (omega (arith, good.named h, ap (tally (weigh h)) q, tally_append (weigh h) xs (start live f false ∷ [])));
    even = omega (arith, good.even, ap (tally downs) q, ap (tally ups) q, tally_append downs xs (start live f false ∷ []), tally_append ups xs (start live f false ∷ []));
    above = above_init ups downs 0 0 xs (start live f false ∷ []) (subst (Above ups downs 0 0) q good.above);
    paired = paired_init xs (start live f false) refl (subst Paired q good.paired);
    linked = linked_init xs (start live f false) false≢true (subst Linked q good.linked);
  }

-- a new start's place, and another's, counted from m
pub far : (es fs : List Event) (e : Event) (m : ℕ) → m < length es → Anchored e → Lands (length es - m) (drop (suc m) es ++ (e ∷ fs))
far [] fs e m h a = absurd (omega arith)
far (x ∷ es) fs e zero h a = rw sub-zero (subst Anchored (sym (get_or-append_seam es e fs finish)) a)
far (x ∷ es) fs e (suc m) h a = rw suc-sub-suc (far es fs e m (omega arith) a)

pub near : (es : List Event) (o c : ℕ) → o < c → Anchored (get_or es c finish) → Lands (c - o) (drop (suc o) es)
near [] o c h a = absurd a
near (x ∷ es) o zero h a = absurd (omega arith)
near (x ∷ es) zero (suc c) h a = rw sub-zero a
near (x ∷ es) (suc o) (suc c) h a = rw suc-sub-suc (near es o c (omega arith) a)

pub linked_at : (es : List Event) (m : ℕ) → Linked es → Lands (next (get_or es m finish)) (drop (suc m) es)
linked_at [] m l = tt
linked_at (x ∷ es) zero l = l.0
linked_at (x ∷ es) (suc m) l = linked_at es m l.1

-- a start that keeps its forward parent
pub lands_kept : (es fs : List Event) (m : ℕ) (s : Status) (f : ℕ) (b : Bool) → get_or es m finish ≡ start s f b → Linked es → Lands f (drop (suc m) es ++ fs)
lands_kept es fs m s f b q l = lands_append f (drop (suc m) es) fs (rw q at (linked_at es m l))

pub last_at : (es : List Event) (m : ℕ) → suc m ≡ length es → es ≡ take m es ++ (get_or es m finish ∷ [])
last_at es m h = split_at es m finish (omega arith) ∙ ap (λ z. take m es ++ (get_or es m finish ∷ z)) (drop_of_length-le es {i = suc m} (omega arith))

pub fresh_good : (ts : Tokens) → Good ts (quiet 0 [])
fresh_good ts = record { toks = refl; covers = refl; named = λ h. refl; even = refl; above = omega arith; paired = tt; linked = tt }
