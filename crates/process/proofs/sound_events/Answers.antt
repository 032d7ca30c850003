-- `sound_events` is `sound_events`: all entries below n are sound, or one is not. Assumes nothing.
use Rattle.std.proofs.Common.{◌≡◌, arith, rules, refl, true, false}
use Rattle.std.proofs.lemmas.Iterator.{cases_from_all, YieldsList-from_range}
use Rattle.process.specs.Process.{sound_at}
use Rattle.process.proofs.Laws.{sound_events_all}
use Rattle.process.proofs.sound_events.Goals as goal

pub returns : goal.returns
returns c =
    sound_events_all _ _ _
    (cases_from_all _ _ _ (λ i. sound_at c.args.events.now c.args.n i ≡ true) (λ i. sound_at c.args.events.now c.args.n i ≡ false) c.all.ensures.ran (YieldsList-from_range 0 c.args.n c.args.n refl (omega arith)) (λ x q k. search rules) (λ x q k. search rules))
