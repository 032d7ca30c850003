-- The cases of `first_of` and `stored_of`, and what each of them is found by. A form that is found at the beginning of some bytes is found
-- in all bytes that begin with the same.
-- Assumes nothing.
use Rattle.std.proofs.Common.{Result, Ok, Err}
use mathlib.Core.Path.{◌≡◌, refl, sym, ap}
use mathlib.Core.List.{List}
use Prim.Native.Nat.{ℕ, ◌≤◌, ◌<◌}
use native.Mathlib.Omega.{arith}
use lib.ListN.{length}
use lib.Dec.{eqb}
use borrow.Author.Tests.{eqb-true, eqb-false}
use Rattle.base.specs.Base.{whether}
use Rattle.base.proofs.Cases.{whether_by}
use Rattle.base.proofs.Laws.{whether_eq, whether_ne}
use Rattle.stored.specs.Stored.{broken_at, on_section, on_stored, section_of, first_of, stored_of, kinds_tag, joints_tag, end_of}
use Rattle.stored.specs.declared.Span.{Span}
use Rattle.stored.specs.declared.Form.{Form}
use Rattle.stored.specs.declared.Broken.{Broken}
use Rattle.stored.proofs.Laws.{section_payload, stored_whole, stored_broken}
use Rattle.stored.proofs.Cases.{Sectioned, sectioned}
use Rattle.stored.proofs.Sections.{Begins, sectioned_again, section_found}

-- what a form that is found shows of the bytes
pub record Formed (bs : List ℕ) (f : Form) : Type 0 where
  pub kinds : Sectioned bs 0 kinds_tag f.kinds
  pub joints : Sectioned bs (end_of f.kinds) joints_tag f.joints
  pub ends : f.end ≡ end_of f.joints

pub data FirstSays (bs : List ℕ) : Result Form Broken → Type 0 where
  no_kinds : {p : ℕ} → section_of bs 0 kinds_tag ≡ broken_at p → FirstSays bs (broken_at p)
  no_joints : {k : Span} {p : ℕ} → Sectioned bs 0 kinds_tag k → section_of bs (end_of k) joints_tag ≡ broken_at p → FirstSays bs (broken_at p)
  found : {f : Form} → Formed bs f → FirstSays bs (Ok f)

first_joints : (bs : List ℕ) (k : Span) (y : Result Span Broken) → Sectioned bs 0 kinds_tag k → section_of bs (end_of k) joints_tag ≡ y
    → FirstSays bs (on_section y (λ joints. Ok (record { kinds = k; joints = joints; end = end_of joints })) (λ p. broken_at p))
unfolding on_section
first_joints bs k (Ok j) h q = found (record { kinds = h; joints = sectioned bs (end_of k) joints_tag q; ends = refl })
first_joints bs k (Err r) h q = no_joints h q

first_kinds : (bs : List ℕ) (x : Result Span Broken) → section_of bs 0 kinds_tag ≡ x
    → FirstSays bs (on_section x (λ kinds. on_section (section_of bs (end_of kinds) joints_tag) (λ joints. Ok (record { kinds = kinds; joints = joints; end = end_of joints })) (λ p. broken_at p)) (λ p. broken_at p))
unfolding on_section
first_kinds bs (Ok k) q = first_joints bs k (section_of bs (end_of k) joints_tag) (sectioned bs 0 kinds_tag q) refl
first_kinds bs (Err r) q = no_kinds q

pub first_says : (bs : List ℕ) → FirstSays bs (first_of bs)
unfolding first_of
first_says bs = first_kinds bs (section_of bs 0 kinds_tag) refl

-- a form is found by what it shows
pub first_found : {bs : List ℕ} {f : Form} → Formed bs f → first_of bs ≡ Ok f
unfolding first_of
first_found {bs} {f} h =
    let same : Ok f ≡ Ok (record { kinds = f.kinds; joints = f.joints; end = end_of f.joints }) = ap (λ (z : ℕ). Ok (record { kinds = f.kinds; joints = f.joints; end = z })) h.ends in
    sym (section_payload _ _ refl (section_found h.kinds) (section_payload _ _ refl (section_found h.joints) same))

pub formed_again : {bs xs : List ℕ} {f : Form} {k : ℕ} → Begins k bs xs → f.end ≤ k → Formed bs f → Formed xs f
formed_again b l h =
    record {
      kinds = sectioned_again b (omega (arith, h.ends, h.joints.start)) h.kinds;
      joints = sectioned_again b (omega (arith, h.ends)) h.joints;
      ends = h.ends;
    }

pub data StoredSays (bs : List ℕ) : Result Form Broken → Type 0 where
  no_first : {p : ℕ} → first_of bs ≡ broken_at p → FirstSays bs (broken_at p) → StoredSays bs (broken_at p)
  after : {f : Form} → Formed bs f → f.end < length bs → StoredSays bs (broken_at f.end)
  all : {f : Form} → Formed bs f → f.end ≡ length bs → StoredSays bs (Ok f)

stored_at : (bs : List ℕ) (x : Result Form Broken) → first_of bs ≡ x → FirstSays bs x
    → StoredSays bs (on_stored x (λ f. whether (eqb f.end (length bs)) (λ _. Ok f) (λ _. broken_at f.end)) (λ p. broken_at p))
unfolding on_stored
stored_at bs _ q (no_kinds h) = no_first q (no_kinds h)
stored_at bs _ q (no_joints h e) = no_first q (no_joints h e)
stored_at bs _ q (found {f = f} h) =
    whether_by (StoredSays bs) (eqb f.end (length bs)) _ _
    (λ e. all h (eqb-true f.end (length bs) e))
    (λ e. let apart : f.end ≡ length bs → ⊥ = eqb-false f.end (length bs) e in
    let inside : f.end ≤ length bs = omega (arith, h.ends, h.joints.fits) in
    after h (omega arith))

pub stored_says : (bs : List ℕ) → StoredSays bs (stored_of bs)
unfolding stored_of
stored_says bs = stored_at bs (first_of bs) refl (first_says bs)

pub stored_found : {bs : List ℕ} {f : Form} → Formed bs f → f.end ≡ length bs → stored_of bs ≡ Ok f
unfolding stored_of
stored_found h e = sym (stored_whole _ _ refl (first_found h) (whether_eq _ _ _ _ e refl))

pub stored_after : {bs : List ℕ} {f : Form} → Formed bs f → f.end < length bs → stored_of bs ≡ broken_at f.end
unfolding stored_of
stored_after {bs} {f} h l =
    let apart : f.end ≡ length bs → ⊥ = λ e. omega arith in
    sym (stored_whole _ _ refl (first_found h) (whether_ne _ _ _ _ apart refl))

pub stored_no_first : (bs : List ℕ) {p : ℕ} → first_of bs ≡ broken_at p → stored_of bs ≡ broken_at p
unfolding stored_of
stored_no_first bs q = sym (stored_broken _ _ refl q refl)
