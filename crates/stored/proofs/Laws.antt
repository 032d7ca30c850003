-- The laws of the answers: each follows a rule along one case of an answer.
-- Assumes nothing.
use Rattle.std.proofs.Common.{Result, Ok, Err}
use mathlib.Core.Path.{◌≡◌, sym, ap, ◌∙◌}
use Prim.Native.Nat.{ℕ}
use Rattle.stored.specs.Stored.{broken_at, on_head, on_section, on_stored}
use Rattle.stored.specs.declared.Span.{Span}
use Rattle.stored.specs.declared.Form.{Form}
use Rattle.stored.specs.declared.Broken.{Broken}

-- answers that are broken alike are broken at one place
place : {T : Type 0} → Result T Broken → ℕ
place (Ok x) = 0
place (Err b) = b.0

pub same_place : {T : Type 0} {p q : ℕ} → broken_at {T = T} p ≡ broken_at q → p ≡ q
unfolding place
same_place e = ap place e

module _ {A : Type 0} {x v : Result ℕ Broken} (f g : ℕ → A) {out : A} where
  pub head_length_lem : {n : ℕ} → x ≡ v → x ≡ Ok n → out ≡ f n → out ≡ on_head v f g
  unfolding on_head
  head_length_lem p q h = h ∙ ap (λ z. on_head z f g) (sym q ∙ p)

module _ {A : Type 0} {x v : Result Span Broken} (f : Span → A) (g : ℕ → A) {out : A} where
  pub section_payload : {s : Span} → x ≡ v → x ≡ Ok s → out ≡ f s → out ≡ on_section v f g
  unfolding on_section
  section_payload p q h = h ∙ ap (λ z. on_section z f g) (sym q ∙ p)

  pub section_broken : {b : Broken} → x ≡ v → x ≡ Err b → out ≡ g b.0 → out ≡ on_section v f g
  unfolding on_section
  section_broken p q h = h ∙ ap (λ z. on_section z f g) (sym q ∙ p)

module _ {A : Type 0} {x v : Result Form Broken} (f : Form → A) (g : ℕ → A) {out : A} where
  pub stored_whole : {r : Form} → x ≡ v → x ≡ Ok r → out ≡ f r → out ≡ on_stored v f g
  unfolding on_stored
  stored_whole p q h = h ∙ ap (λ z. on_stored z f g) (sym q ∙ p)

  pub stored_broken : {b : Broken} → x ≡ v → x ≡ Err b → out ≡ g b.0 → out ≡ on_stored v f g
  unfolding on_stored
  stored_broken p q h = h ∙ ap (λ z. on_stored z f g) (sym q ∙ p)
