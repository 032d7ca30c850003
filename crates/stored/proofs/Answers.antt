-- The rule gives the answer that the paper allows, and the paper allows no other: of two places the earlier would begin a valid form with
-- its byte, since the bytes before the later one do. Each public call's answer is one by its contract, an equation.
-- Assumes nothing.
use Rattle.std.proofs.Common.{Result, Ok, Err}
use mathlib.Core.Path.{◌≡◌, refl, sym, ap, subst, ◌∙◌}
use mathlib.Core.Bool.{Bool, true, false}
use mathlib.Core.List.{List, ◌++◌, append_assoc}
use Prim.Native.Nat.{ℕ, suc, ◌+◌, ◌-◌, ◌<◌}
use native.Mathlib.Omega.{arith}
use lib.ListN.{length, take, drop}
use lib.Seq.{take-add}
use lib.Dec.{ltb}
use borrow.Author.Tests.{ltb-true, ltb-false}
use Rattle.stored.specs.Stored.{broken_at, encode, head_of, section_of, first_of, stored_of, long_of, limited_of, kinds_of, joints_of}
use Rattle.stored.specs.Valid.{Bytes, Valid, Place, form_of, Allowed, whole, broken, AllowedFirst, whole_first, broken_first}
use Rattle.stored.specs.declared.Form.{Form}
use Rattle.stored.specs.declared.Broken.{Broken}
use Rattle.stored.specs.declared.Unread.{Unread}
use Rattle.stored.specs.declared.Span.{Span}
use Rattle.stored.proofs.Sections.{begins_take, begins_append}
use Rattle.stored.proofs.Forms.{first_found, formed_again}
use Rattle.stored.proofs.Encodings.{first_encode, first_formed, first_is_encoding, first_counted, accepted_is_valid, valid_is_accepted}
use Rattle.stored.proofs.Places.{place_is_right, first_place_is_right, first_broken_stays}

earlier_is_none : {bs : List ℕ} {p q : ℕ} → Place bs p → Place bs q → p < q → ⊥
earlier_is_none {bs} {p} {q} a b l =
    let sum : q ≡ suc p + (q - suc p) = omega arith in
    let middle : List ℕ = take (q - suc p) (drop (suc p) bs) in
    let split : take q bs ++ b.rest ≡ take (suc p) bs ++ (middle ++ b.rest) =
    ap (λ (z : ℕ). take z bs ++ b.rest) sum ∙ ap (λ (z : List ℕ). z ++ b.rest) (take-add (suc p) (q - suc p) bs) ∙ append_assoc (take (suc p) bs) middle b.rest in
    a.stuck (omega (arith, b.within)) (middle ++ b.rest) (subst Valid split b.before)

-- there is one place of refusal 10
pub place_is_one : (bs : List ℕ) (p q : ℕ) → Place bs p → Place bs q → p ≡ q
place_is_one bs p q a b = go (ltb p q) refl (ltb q p) refl
  where
    go : (y : Bool) → ltb p q ≡ y → (z : Bool) → ltb q p ≡ z → p ≡ q
    go true e z f = absurd (earlier_is_none a b (ltb-true p q e))
    go false e true f = absurd (earlier_is_none b a (ltb-true q p f))
    go false e false f = omega (arith, ltb-false p q e, ltb-false q p f)

never_both : {bs : List ℕ} {p : ℕ} → Valid bs → stored_of bs ≡ broken_at p → ⊥
never_both v q =
    let accepted = valid_is_accepted v in
    let z : ◌≡◌ {A = ℕ} 0 1 = cc in
    omega arith

-- the rule's answer is allowed
pub answer_is_allowed : (bs : List ℕ) → Bytes bs → Allowed bs (stored_of bs)
answer_is_allowed bs b = go (stored_of bs) refl
  where
    go : (x : Result Form Broken) → stored_of bs ≡ x → Allowed bs x
    go (Ok f) q =
        let v : Valid bs = accepted_is_valid bs f b q in
        subst (Allowed bs) (sym (valid_is_accepted v) ∙ q) (whole v)
    go (Err r) q = broken (λ v. never_both v q) (place_is_right bs r.0 b q)

-- any two allowed answers agree
pub allowed_answers_agree : {bs : List ℕ} {x y : Result Form Broken} → Allowed bs x → Allowed bs y → x ≡ y
allowed_answers_agree (whole v) (whole w) = sym (valid_is_accepted v) ∙ valid_is_accepted w
allowed_answers_agree (whole v) (broken e a) = absurd (e v)
allowed_answers_agree (broken e a) (whole w) = absurd (e w)
allowed_answers_agree {bs} (broken {p = p} e a) (broken {p = q} f b) = ap broken_at (place_is_one bs p q a b)

-- so the rule's answer is the allowed one
pub allowed_is_answer : {bs : List ℕ} {x : Result Form Broken} → Bytes bs → Allowed bs x → x ≡ stored_of bs
allowed_is_answer {bs} b a = allowed_answers_agree a (answer_is_allowed bs b)

-- a form that stands first

first_refused : {bs : List ℕ} {p : ℕ} → first_of bs ≡ broken_at p → (ks js ys : List ℕ) → bs ≡ encode ks js ++ ys → ⊥
first_refused q ks js ys e =
    let accepted = ap first_of e ∙ first_encode ks js ys in
    let z : ◌≡◌ {A = ℕ} 0 1 = cc in
    omega arith

-- the rule's answer is allowed
pub first_answer_is_allowed : (bs : List ℕ) → Bytes bs → AllowedFirst bs (first_of bs)
first_answer_is_allowed bs b = go (first_of bs) refl
  where
    go : (x : Result Form Broken) → first_of bs ≡ x → AllowedFirst bs x
    go (Ok f) q =
        let counted = first_counted bs f b q in
        let written = first_is_encoding bs f b q in
        let found = ap first_of written ∙ first_encode (kinds_of bs f) (joints_of bs f) (drop f.end bs) in
        subst (AllowedFirst bs) (sym found ∙ q) (whole_first (kinds_of bs f) (joints_of bs f) (drop f.end bs) counted.0 counted.1 written)
    go (Err r) q = broken_first (first_refused q) (first_place_is_right bs r.0 b q)

-- any two allowed answers agree
pub allowed_first_answers_agree : {bs : List ℕ} {x y : Result Form Broken} → AllowedFirst bs x → AllowedFirst bs y → x ≡ y
allowed_first_answers_agree (whole_first ks js ys h k e) (whole_first ls ms zs m n f) = sym (ap first_of e ∙ first_encode ks js ys) ∙ (ap first_of f ∙ first_encode ls ms zs)
allowed_first_answers_agree (whole_first ks js ys h k e) (broken_first n a) = absurd (n ks js ys e)
allowed_first_answers_agree (broken_first n a) (whole_first ks js ys h k e) = absurd (n ks js ys e)
allowed_first_answers_agree {bs} (broken_first {p = p} n a) (broken_first {p = q} m b) = ap broken_at (place_is_one bs p q a b)

-- with the byte at the place, no bytes after it begin with an encoding
pub first_place_stuck : (bs : List ℕ) (p : ℕ) → first_of bs ≡ broken_at p → p < length bs → (t ks js ys : List ℕ) → take (suc p) bs ++ t ≡ encode ks js ++ ys → ⊥
first_place_stuck bs p q l t ks js ys e =
    let here : first_of (take (suc p) bs ++ t) ≡ broken_at p = first_broken_stays bs (take (suc p) bs ++ t) (begins_take bs t (suc p) (omega arith)) l q in
    let accepted : first_of (take (suc p) bs ++ t) ≡ Ok (form_of ks js) = ap first_of e ∙ first_encode ks js ys in
    let z : ◌≡◌ {A = ℕ} 0 1 = cc in
    omega arith

-- it is found alike whatever follows
pub first_whole_stays : (bs t : List ℕ) (f : Form) → first_of bs ≡ Ok f → first_of (bs ++ t) ≡ Ok f
first_whole_stays bs t f q =
    let h = first_formed bs q in
    first_found (formed_again (begins_append bs t) (omega (arith, h.ends, h.joints.fits)) h)

-- any two answers that the contract of a public call allows agree

agree : {A : Type 0} {x y z : A} → x ≡ z → y ≡ z → x ≡ y
agree p q = p ∙ sym q

pub head_answers_agree : (bs : List ℕ) (at tag : ℕ) {x y : Result ℕ Broken} → x ≡ head_of bs at tag → y ≡ head_of bs at tag → x ≡ y
head_answers_agree bs at tag p q = agree p q

pub section_answers_agree : (bs : List ℕ) (at tag : ℕ) {x y : Result Span Broken} → x ≡ section_of bs at tag → y ≡ section_of bs at tag → x ≡ y
section_answers_agree bs at tag p q = agree p q

pub first_answers_agree : (bs : List ℕ) {x y : Result Form Broken} → x ≡ first_of bs → y ≡ first_of bs → x ≡ y
first_answers_agree bs p q = agree p q

pub stored_answers_agree : (bs : List ℕ) {x y : Result Form Broken} → x ≡ stored_of bs → y ≡ stored_of bs → x ≡ y
stored_answers_agree bs p q = agree p q

pub long_answers_agree : (bs : List ℕ) (limit : ℕ) {x y : Bool} → x ≡ long_of bs limit → y ≡ long_of bs limit → x ≡ y
long_answers_agree bs limit p q = agree p q

pub limited_answers_agree : (bs : List ℕ) (limit : ℕ) {x y : Result Form Unread} → x ≡ limited_of bs limit → y ≡ limited_of bs limit → x ≡ y
limited_answers_agree bs limit p q = agree p q

pub kinds_answers_agree : (bs : List ℕ) (f : Form) {x y : List ℕ} → x ≡ kinds_of bs f → y ≡ kinds_of bs f → x ≡ y
kinds_answers_agree bs f p q = agree p q

pub joints_answers_agree : (bs : List ℕ) (f : Form) {x y : List ℕ} → x ≡ joints_of bs f → y ≡ joints_of bs f → x ≡ y
joints_answers_agree bs f p q = agree p q
