-- A reader with a limit refuses 3 exactly at a length above it that is read before anything is broken, and answers as `stored_of` else.
-- What it answers at a length above the limit, or at a byte that fits no form, stands whatever follows: it need not read on.
-- Assumes nothing.
use Rattle.std.proofs.Common.{Result, Ok, Err}
use mathlib.Core.Path.{◌≡◌, refl, sym, ap, subst, ◌∙◌}
use mathlib.Core.Bool.{Bool, true, false}
use mathlib.Core.List.{List, ◌++◌}
use Prim.Native.Nat.{ℕ, ◌+◌, ◌≤◌, ◌<◌}
use native.Mathlib.Omega.{arith}
use lib.ListN.{length, get_or}
use lib.Dec.{ltb}
use borrow.Author.Tests.{ltb-true, ltb-false, lt-ltb}
use Rattle.base.specs.Base.{whether}
use Rattle.base.proofs.Cases.{whether_by}
use Rattle.base.proofs.Laws.{whether_yes, whether_no, whether_lt, whether_ge}
use Rattle.stored.specs.Stored.{broken_at, on_head, on_stored, head_of, stored_of, long_of, limited_of, kinds_tag, joints_tag, head_length, end_of}
use Rattle.stored.specs.Valid.{Bytes, Valid, form_of, Headed, TooLong, kinds_long, joints_long, AllowedLimited, long, whole_within, broken_within}
use Rattle.stored.specs.declared.Form.{Form}
use Rattle.stored.specs.declared.Broken.{Broken}
use Rattle.stored.specs.declared.Unread.{Unread}
use Rattle.stored.specs.declared.Unread.TheVariants as unread
use Rattle.stored.proofs.Laws.{same_place, head_length_lem, stored_whole, stored_broken}
use Rattle.stored.proofs.Cases.{headed}
use Rattle.stored.proofs.Sections.{head_found, Begins, begins_append, headed_again, section_inside, Other}
use Rattle.stored.proofs.Forms.{Formed, no_kinds, no_joints, StoredSays, no_first, after, all, stored_says}
use Rattle.stored.proofs.Places.{more_bytes_change_nothing, place_is_right}
use Rattle.stored.proofs.Encodings.{accepted_is_valid, valid_is_accepted, stored_formed}
use Rattle.stored.proofs.Answers.{place_is_one}

-- a length above the limit that is read is refused
pub read_is_long : {bs : List ℕ} {limit : ℕ} → TooLong bs limit → long_of bs limit ≡ true
unfolding long_of
read_is_long (kinds_long h l) = sym (head_length_lem _ _ refl (head_found h) (whether_lt _ _ _ _ l refl))
read_is_long {bs} {limit} (joints_long {k = k} {n = n} h s j l) =
    sym (head_length_lem _ _ refl (head_found h) (whether_ge _ _ _ _ s (head_length_lem _ _ refl (head_found j) (sym (lt-ltb limit n l)))))

long_joints : (bs : List ℕ) (limit k : ℕ) (y : Result ℕ Broken) → Headed bs 0 kinds_tag k → k ≤ limit → head_of bs (head_length + k) joints_tag ≡ y → on_head y (λ n. ltb limit n) (λ _. false) ≡ true → TooLong bs limit
unfolding on_head
long_joints bs limit k (Ok n) h s q e = joints_long h s (headed bs (head_length + k) joints_tag q) (ltb-true limit n e)
long_joints bs limit k (Err r) h s q e = let z : ◌≡◌ {A = ℕ} 0 1 = cc in absurd (omega arith)

long_kinds : (bs : List ℕ) (limit : ℕ) (x : Result ℕ Broken) → head_of bs 0 kinds_tag ≡ x
    → on_head x (λ k. whether (ltb limit k) (λ _. true) λ _. on_head (head_of bs (head_length + k) joints_tag) (λ n. ltb limit n) (λ _. false)) (λ _. false) ≡ true → TooLong bs limit
unfolding on_head
long_kinds bs limit (Ok k) q =
    let h : Headed bs 0 kinds_tag k = headed bs 0 kinds_tag q in
    whether_by (λ (z : Bool). z ≡ true → TooLong bs limit) (ltb limit k) _ _
    (λ l _. kinds_long h (ltb-true limit k l))
    (λ l e. long_joints bs limit k (head_of bs (head_length + k) joints_tag) h (ltb-false limit k l) refl e)
long_kinds bs limit (Err r) q = λ e. let z : ◌≡◌ {A = ℕ} 0 1 = cc in absurd (omega arith)

-- and nothing else is
pub long_is_read : (bs : List ℕ) (limit : ℕ) → long_of bs limit ≡ true → TooLong bs limit
unfolding long_of
long_is_read bs limit e = long_kinds bs limit (head_of bs 0 kinds_tag) refl e

short_of : {bs : List ℕ} {limit : ℕ} → (TooLong bs limit → ⊥) → long_of bs limit ≡ false
short_of {bs} {limit} none = go (long_of bs limit) refl
  where
    go : (z : Bool) → long_of bs limit ≡ z → z ≡ false
    go true e = absurd (none (long_is_read bs limit e))
    go false e = refl

-- "refuses 3 at 0 at the first length above 256"
pub limited_long : {bs : List ℕ} {limit : ℕ} → TooLong bs limit → limited_of bs limit ≡ Err unread.Long
unfolding limited_of
limited_long h = sym (whether_yes _ _ (read_is_long h) refl)

-- without such a length the answer is that of `stored_of`
pub limited_whole : {bs : List ℕ} {limit : ℕ} (f : Form) → (TooLong bs limit → ⊥) → stored_of bs ≡ Ok f → limited_of bs limit ≡ Ok f
unfolding limited_of
limited_whole f none q = sym (whether_no _ _ (short_of none) (stored_whole _ _ refl q refl))

pub limited_broken : {bs : List ℕ} {limit : ℕ} (p : ℕ) → (TooLong bs limit → ⊥) → stored_of bs ≡ broken_at p → limited_of bs limit ≡ Err (unread.Broken p)
unfolding limited_of
limited_broken p none q = sym (whether_no _ _ (short_of none) (stored_broken _ _ refl q refl))

within : (limit n : ℕ) → (limit < n → ⊥) → n ≤ limit
within limit n none = omega arith

-- the cases of a reader with a limit
pub data LimitedSays (bs : List ℕ) (limit : ℕ) : Result Form Unread → Type 0 where
  says_long : TooLong bs limit → LimitedSays bs limit (Err unread.Long)
  says_whole : {f : Form} → (TooLong bs limit → ⊥) → stored_of bs ≡ Ok f → LimitedSays bs limit (Ok f)
  says_broken : {p : ℕ} → (TooLong bs limit → ⊥) → stored_of bs ≡ broken_at p → LimitedSays bs limit (Err (unread.Broken p))

limited_at : (bs : List ℕ) (limit : ℕ) (x : Result Form Broken) → (TooLong bs limit → ⊥) → stored_of bs ≡ x → LimitedSays bs limit (on_stored x (λ f. Ok f) (λ p. Err (unread.Broken p)))
unfolding on_stored
limited_at bs limit (Ok f) none q = says_whole none q
limited_at bs limit (Err r) none q = says_broken none q

pub limited_says : (bs : List ℕ) (limit : ℕ) → LimitedSays bs limit (limited_of bs limit)
unfolding limited_of
limited_says bs limit =
    whether_by (LimitedSays bs limit) (long_of bs limit) _ _
    (λ e. says_long (long_is_read bs limit e))
    (λ e. limited_at bs limit (stored_of bs) (λ w. let y : long_of bs limit ≡ true = read_is_long w in let z : ◌≡◌ {A = ℕ} 0 1 = cc in omega arith) refl)

-- the rule's answer is allowed
limited_allowed_of : {bs : List ℕ} {limit : ℕ} {x : Result Form Unread} → Bytes bs → LimitedSays bs limit x → AllowedLimited bs limit x
limited_allowed_of b (says_long w) = long w
limited_allowed_of {bs} {limit} b (says_whole {f = f} none q) =
    let v : Valid bs = accepted_is_valid bs f b q in
    let accepted : Ok (form_of v.kinds v.joints) ≡ Ok f = sym (valid_is_accepted v) ∙ q in
    let same : form_of v.kinds v.joints ≡ f = cc in
    subst (λ (z : Form). AllowedLimited bs limit (Ok z)) same (whole_within none v)
limited_allowed_of {bs} b (says_broken {p = p} none q) =
    broken_within none (λ v. let accepted = valid_is_accepted v in let z : ◌≡◌ {A = ℕ} 0 1 = cc in omega arith) (place_is_right bs p b q)

pub limited_answer_is_allowed : (bs : List ℕ) (limit : ℕ) → Bytes bs → AllowedLimited bs limit (limited_of bs limit)
limited_answer_is_allowed bs limit b = limited_allowed_of b (limited_says bs limit)

-- any two allowed answers agree
pub allowed_limited_answers_agree : {bs : List ℕ} {limit : ℕ} {x y : Result Form Unread} → AllowedLimited bs limit x → AllowedLimited bs limit y → x ≡ y
allowed_limited_answers_agree (long w) (long u) = refl
allowed_limited_answers_agree (long w) (whole_within n v) = absurd (n w)
allowed_limited_answers_agree (long w) (broken_within n e a) = absurd (n w)
allowed_limited_answers_agree (whole_within n v) (long w) = absurd (n w)
allowed_limited_answers_agree (whole_within n v) (whole_within m w) =
    let accepted : Ok (form_of v.kinds v.joints) ≡ Ok (form_of w.kinds w.joints) = sym (valid_is_accepted v) ∙ valid_is_accepted w in
    let same : form_of v.kinds v.joints ≡ form_of w.kinds w.joints = cc in
    ap Ok same
allowed_limited_answers_agree (whole_within n v) (broken_within m e a) = absurd (e v)
allowed_limited_answers_agree (broken_within n e a) (long w) = absurd (n w)
allowed_limited_answers_agree (broken_within n e a) (whole_within m v) = absurd (e v)
allowed_limited_answers_agree {bs} (broken_within {p = p} n e a) (broken_within {p = q} m f b) = ap (λ (z : ℕ). Err (unread.Broken z)) (place_is_one bs p q a b)

-- both lengths of a form that is read are within the limit
lengths_within_of : {bs : List ℕ} {limit : ℕ} {x : Result Form Unread} (f : Form) → LimitedSays bs limit x → x ≡ Ok f → (f.kinds.len ≤ limit) × (f.joints.len ≤ limit)
lengths_within_of f (says_long w) q = let z : ◌≡◌ {A = ℕ} 0 1 = cc in absurd (omega arith)
lengths_within_of f (says_broken none e) q = let z : ◌≡◌ {A = ℕ} 0 1 = cc in absurd (omega arith)
lengths_within_of {bs} {limit} f (says_whole {f = g} none e) q =
    let same : g ≡ f = cc in
    let h : Formed bs f = (stored_formed bs (e ∙ ap Ok same)).formed in
    let start : end_of f.kinds ≡ head_length + f.kinds.len = omega (arith, h.kinds.start) in
    let few_kinds : f.kinds.len ≤ limit = within limit f.kinds.len (λ l. none (kinds_long h.kinds.head l)) in
    let joints : Headed bs (head_length + f.kinds.len) joints_tag f.joints.len = subst (λ (a : ℕ). Headed bs a joints_tag f.joints.len) start h.joints.head in
    (few_kinds, within limit f.joints.len (λ l. none (joints_long h.kinds.head few_kinds joints l)))

pub lengths_within : (bs : List ℕ) (limit : ℕ) (f : Form) → limited_of bs limit ≡ Ok f → (f.kinds.len ≤ limit) × (f.joints.len ≤ limit)
lengths_within bs limit f q = lengths_within_of f (limited_says bs limit) q

-- "without reading on": what is answered at a length above the limit, or at a byte that fits no form, stands whatever follows

long_again : (bs t : List ℕ) {limit : ℕ} → TooLong bs limit → TooLong (bs ++ t) limit
long_again bs t (kinds_long h l) = kinds_long (headed_again (begins_append bs t) h.fits h) l
long_again bs t (joints_long h s j l) = joints_long (headed_again (begins_append bs t) h.fits h) s (headed_again (begins_append bs t) j.fits j) l

long_stays_of : (bs t : List ℕ) (limit : ℕ) {x : Result Form Unread} → LimitedSays bs limit x → x ≡ Err unread.Long → limited_of (bs ++ t) limit ≡ Err unread.Long
long_stays_of bs t limit (says_long w) q = limited_long (long_again bs t w)
long_stays_of bs t limit (says_whole n e) q = let z : ◌≡◌ {A = ℕ} 0 1 = cc in absurd (omega arith)
long_stays_of bs t limit (says_broken n e) q = let z : ◌≡◌ {A = ℕ} 0 1 = cc in absurd (omega arith)

pub long_stays : (bs t : List ℕ) (limit : ℕ) → limited_of bs limit ≡ Err unread.Long → limited_of (bs ++ t) limit ≡ Err unread.Long
long_stays bs t limit q = long_stays_of bs t limit (limited_says bs limit) q

begins_back : (bs t : List ℕ) → Begins (length bs) (bs ++ t) bs
begins_back bs t = record { far = omega arith; same = λ i l. sym ((begins_append bs t).same i l) }

-- where the bytes are broken before their end, no length is read later
long_back_of : {bs : List ℕ} (t : List ℕ) {limit p : ℕ} {x : Result Form Broken} → StoredSays bs x → x ≡ broken_at p → p < length bs → TooLong (bs ++ t) limit → TooLong bs limit
long_back_of {bs} t {limit} {p} (no_first {p = q} e (no_kinds h)) r l = λ w. absurd (other w)
  where
    o : Other bs 0 kinds_tag q
    o = let same : q ≡ p = same_place r in section_inside bs 0 kinds_tag h (omega arith)

    tag_differs : {n : ℕ} → Headed (bs ++ t) 0 kinds_tag n → ⊥
    tag_differs g = o.differs (sym ((begins_append bs t).same 0 (omega arith)) ∙ g.tagged)

    other : TooLong (bs ++ t) limit → ⊥
    other (kinds_long g k) = tag_differs g
    other (joints_long g s j k) = tag_differs g
long_back_of {bs} t {limit} {p} (no_first {p = q} e (no_joints {k = span} s h)) r l = back
  where
    o : Other bs (end_of span) joints_tag q
    o = let same : q ≡ p = same_place r in section_inside bs (end_of span) joints_tag h (omega arith)

    back : TooLong (bs ++ t) limit → TooLong bs limit
    back (kinds_long g k) = kinds_long (headed_again (begins_back bs t) s.head.fits g) k
    back (joints_long {k = m} g w j k) =
        let g' : Headed bs 0 kinds_tag m = headed_again (begins_back bs t) s.head.fits g in
        let same_length : m ≡ span.len = sym g'.counted ∙ s.head.counted in
        let here : head_length + m ≡ end_of span = omega (arith, s.start) in
        let inside : head_length + m < length bs = let same : q ≡ p = same_place r in omega (arith, o.here) in
        let differs : get_or bs (head_length + m) 0 ≡ joints_tag → ⊥ = λ z. o.differs (ap (λ (i : ℕ). get_or bs i 0) (sym here) ∙ z) in
        absurd (differs (sym ((begins_append bs t).same (head_length + m) inside) ∙ j.tagged))
long_back_of {bs} t {limit} {p} (after {f = f} h m) r l = back
  where
    back : TooLong (bs ++ t) limit → TooLong bs limit
    back (kinds_long g k) = kinds_long (headed_again (begins_back bs t) h.kinds.head.fits g) k
    back (joints_long {k = n} g w j k) =
        let g' : Headed bs 0 kinds_tag n = headed_again (begins_back bs t) h.kinds.head.fits g in
        let same_length : n ≡ f.kinds.len = sym g'.counted ∙ h.kinds.head.counted in
        joints_long g' w (headed_again (begins_back bs t) (omega (arith, h.joints.head.fits, h.kinds.start)) j) k
long_back_of t (all h k) r l = λ w. let z : ◌≡◌ {A = ℕ} 0 1 = cc in absurd (omega arith)

broken_stays_of : (bs t : List ℕ) (limit p : ℕ) {x : Result Form Unread} → LimitedSays bs limit x → x ≡ Err (unread.Broken p) → p < length bs → limited_of (bs ++ t) limit ≡ Err (unread.Broken p)
broken_stays_of bs t limit p (says_long w) e l = let z : ◌≡◌ {A = ℕ} 0 1 = cc in absurd (omega arith)
broken_stays_of bs t limit p (says_whole n q) e l = let z : ◌≡◌ {A = ℕ} 0 1 = cc in absurd (omega arith)
broken_stays_of bs t limit p (says_broken {p = r} none q) e l =
    let same : r ≡ p = cc in
    let here : stored_of bs ≡ broken_at p = q ∙ ap broken_at same in
    limited_broken p (λ w. none (long_back_of t (stored_says bs) here l w)) (more_bytes_change_nothing bs t p here l)

pub broken_stays : (bs t : List ℕ) (limit p : ℕ) → limited_of bs limit ≡ Err (unread.Broken p) → p < length bs → limited_of (bs ++ t) limit ≡ Err (unread.Broken p)
broken_stays bs t limit p q l = broken_stays_of bs t limit p (limited_says bs limit) q l
