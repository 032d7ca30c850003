-- The cases of `head_of` and `section_of`, each with what it shows of the bytes. A head that gives a length stands whole in the bytes, and a
-- section that gives its payload ends in them.
-- Assumes nothing.
use Rattle.std.proofs.Common.{Result, Ok}
use mathlib.Core.Path.{◌≡◌, refl, sym, subst, ◌∙◌}
use Prim.Native.Nat.{ℕ, ◌+◌, ◌-◌, ◌≤◌, ◌<◌}
use mathlib.Core.List.{List}
use native.Mathlib.Omega.{arith}
use lib.ListN.{length, get_or}
use lib.Dec.{ltb, leb, eqb}
use borrow.Author.Tests.{ltb-true, ltb-false, leb-true, leb-false, eqb-true, eqb-false}
use Rattle.base.specs.Base.{whether}
use Rattle.base.proofs.Cases.{whether_by}
use Rattle.stored.specs.Stored.{broken_at, on_head, head_of, section_of, head_length, end_of}
use Rattle.stored.specs.Valid.{Headed}
use Rattle.stored.specs.declared.Span.{Span}
use Rattle.stored.specs.declared.Broken.{Broken}

-- the cases of a head
pub data HeadSays (bs : List ℕ) (at tag : ℕ) : Result ℕ Broken → Type 0 where
  head_ended : length bs ≤ at → HeadSays bs at tag (broken_at (length bs))
  head_other : at < length bs → (get_or bs at 0 ≡ tag → ⊥) → HeadSays bs at tag (broken_at at)
  head_short : at < length bs → get_or bs at 0 ≡ tag → length bs < at + head_length → HeadSays bs at tag (broken_at (length bs))
  head_full : {n : ℕ} → Headed bs at tag n → HeadSays bs at tag (Ok n)

pub head_says : (bs : List ℕ) (at tag : ℕ) → HeadSays bs at tag (head_of bs at tag)
unfolding head_of
head_says bs at tag =
    whether_by (HeadSays bs at tag) (leb (length bs) at) _ _
    (λ q. head_ended (leb-true (length bs) at q))
    (λ q. let inside : at < length bs = leb-false (length bs) at q in
    whether_by (HeadSays bs at tag) (eqb (get_or bs at 0) tag) _ _
    (λ e. let same : get_or bs at 0 ≡ tag = eqb-true (get_or bs at 0) tag e in
    whether_by (HeadSays bs at tag) (ltb (length bs - at) head_length) _ _
    (λ l. head_short inside same (omega (arith, ltb-true (length bs - at) head_length l)))
    (λ l. head_full (record { fits = omega (arith, ltb-false (length bs - at) head_length l); tagged = same; counted = refl })))
    (λ e. head_other inside (eqb-false (get_or bs at 0) tag e)))

pub headed_of : {bs : List ℕ} {at tag n : ℕ} {x : Result ℕ Broken} → HeadSays bs at tag x → x ≡ Ok n → Headed bs at tag n
headed_of (head_ended h) q = let z : ◌≡◌ {A = ℕ} 0 1 = cc in absurd (omega arith)
headed_of (head_other h e) q = let z : ◌≡◌ {A = ℕ} 0 1 = cc in absurd (omega arith)
headed_of (head_short h e l) q = let z : ◌≡◌ {A = ℕ} 0 1 = cc in absurd (omega arith)
headed_of {n = n} (head_full {n = m} h) q = let same : m ≡ n = cc in record { fits = h.fits; tagged = h.tagged; counted = h.counted ∙ same }

pub headed : (bs : List ℕ) (at tag : ℕ) {n : ℕ} → head_of bs at tag ≡ Ok n → Headed bs at tag n
headed bs at tag q = headed_of (head_says bs at tag) q

pub head_fits : (bs : List ℕ) (at tag : ℕ) {n : ℕ} {x : Result ℕ Broken} → x ≡ head_of bs at tag → x ≡ Ok n → at + head_length ≤ length bs
head_fits bs at tag p q = (headed bs at tag (sym p ∙ q)).fits

-- what a section that gives its payload shows of the bytes
pub record Sectioned (bs : List ℕ) (at tag : ℕ) (s : Span) : Type 0 where
  pub head : Headed bs at tag s.len
  pub start : s.at ≡ at + head_length
  pub fits : end_of s ≤ length bs

-- the cases of a section
pub data SectionSays (bs : List ℕ) (at tag : ℕ) : Result Span Broken → Type 0 where
  ended : length bs ≤ at → SectionSays bs at tag (broken_at (length bs))
  other : at < length bs → (get_or bs at 0 ≡ tag → ⊥) → SectionSays bs at tag (broken_at at)
  short : at < length bs → get_or bs at 0 ≡ tag → length bs < at + head_length → SectionSays bs at tag (broken_at (length bs))
  cut : {n : ℕ} → Headed bs at tag n → length bs < at + head_length + n → SectionSays bs at tag (broken_at (length bs))
  full : {s : Span} → Sectioned bs at tag s → SectionSays bs at tag (Ok s)

section_says_at : (bs : List ℕ) (at tag : ℕ) (h : Result ℕ Broken) → HeadSays bs at tag h → SectionSays bs at tag (on_head h (λ n. whether (ltb (length bs - at - head_length) n) (λ _. broken_at (length bs)) (λ _. Ok (record { at = at + head_length; len = n }))) (λ p. broken_at p))
unfolding on_head
section_says_at bs at tag _ (head_ended h) = ended h
section_says_at bs at tag _ (head_other h e) = other h e
section_says_at bs at tag _ (head_short h e l) = short h e l
section_says_at bs at tag _ (head_full {n = n} h) =
    whether_by (SectionSays bs at tag) (ltb (length bs - at - head_length) n) _ _
    (λ q. cut h (omega (arith, h.fits, ltb-true (length bs - at - head_length) n q)))
    (λ q. full (record { head = h; start = refl; fits = omega (arith, h.fits, ltb-false (length bs - at - head_length) n q) }))

pub section_says : (bs : List ℕ) (at tag : ℕ) → SectionSays bs at tag (section_of bs at tag)
unfolding section_of
section_says bs at tag = section_says_at bs at tag (head_of bs at tag) (head_says bs at tag)

sectioned_of : {bs : List ℕ} {at tag : ℕ} {s : Span} {x : Result Span Broken} → SectionSays bs at tag x → x ≡ Ok s → Sectioned bs at tag s
sectioned_of (ended h) q = let z : ◌≡◌ {A = ℕ} 0 1 = cc in absurd (omega arith)
sectioned_of (other h e) q = let z : ◌≡◌ {A = ℕ} 0 1 = cc in absurd (omega arith)
sectioned_of (short h e l) q = let z : ◌≡◌ {A = ℕ} 0 1 = cc in absurd (omega arith)
sectioned_of (cut h l) q = let z : ◌≡◌ {A = ℕ} 0 1 = cc in absurd (omega arith)
sectioned_of {bs} {at} {tag} {s} (full {s = r} h) q = let same : r ≡ s = cc in subst (λ (z : Span). Sectioned bs at tag z) same h

pub sectioned : (bs : List ℕ) (at tag : ℕ) {s : Span} → section_of bs at tag ≡ Ok s → Sectioned bs at tag s
sectioned bs at tag q = sectioned_of (section_says bs at tag) q

pub section_fits : (bs : List ℕ) (at tag : ℕ) {s : Span} {x : Result Span Broken} → x ≡ section_of bs at tag → x ≡ Ok s → end_of s ≤ length bs
section_fits bs at tag p q = (sectioned bs at tag (sym p ∙ q)).fits
