use Rattle.std.proofs.Common.{rules, ap, sym, ◌∙◌}
use lib.Dec.{eqb}
use Rattle.base.proofs.Laws.{tests}
use Rattle.input.specs.SyntaxKind.{IDENT}
use Rattle.grammar.specs.Expressions.{is_method}
use Rattle.grammar.proofs.Laws.{ident_stands}
use Rattle.grammar.proofs.expressions.is_method.Goals as goal

pub returns-then-kind-eq-L_PAREN : goal.returns-then-kind-eq-L_PAREN
unfolding is_method
returns-then-kind-eq-L_PAREN c = search (tests, rules) depth 10

pub returns-then-not-stands : goal.returns-then-not-stands
unfolding is_method
returns-then-not-stands c =
    let is : _ = c.stands.ensures.value ∙ ident_stands _ _ ∙ ap (λ k. eqb k IDENT) (sym c.kind_at-kind.ensures) in search (tests, is, rules) depth 10

pub returns-then-kind_at-eq-L_PAREN : goal.returns-then-kind_at-eq-L_PAREN
unfolding is_method
returns-then-kind_at-eq-L_PAREN c =
    let is : _ = c.stands.ensures.value ∙ ident_stands _ _ ∙ ap (λ k. eqb k IDENT) (sym c.kind_at-kind.ensures) in search (tests, is, rules) depth 10

pub returns-else-kind_at-eq-L_PAREN : goal.returns-else-kind_at-eq-L_PAREN
unfolding is_method
returns-else-kind_at-eq-L_PAREN c =
    let is : _ = c.stands.ensures.value ∙ ident_stands _ _ ∙ ap (λ k. eqb k IDENT) (sym c.kind_at-kind.ensures) in search (tests, is, rules) depth 10
