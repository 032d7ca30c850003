-- No difference at first, and that of one step more at each turn: by the pair that stands at its index. Assumes nothing.
use Rattle.std.proofs.Common.{length}
use Rattle.std.proofs.lemmas.List.{length_push}
use Rattle.std.proofs.lemmas.Iterator.{YieldsList-from_slice, YieldsList-from_zip}
use Rattle.std.proofs.lemmas.Iterator.Consumers.{YieldsList-from_enumerate, YieldsList-turn, YieldsList-end}
use Rattle.revision.proofs.Laws.{differs_none, differs_same, differs_other, pair_at, turns_are}
use Rattle.revision.proofs.put_differs.Goals as goal

pub loop-i-init : goal.loop-i-init
loop-i-init c = differs_none _ _ _

pub loop-i-preserved-then-x-y : goal.loop-i-preserved-then-x-y
loop-i-preserved-then-x-y c =
    let road = YieldsList-from_enumerate (YieldsList-from_zip (YieldsList-from_slice c.args.first.now cc) (YieldsList-from_slice c.args.second.now cc)) cc in
    let t = YieldsList-turn road c.loop-i.yielded _ c.loop-i.yielded_by _ c.next.new.self _ c.in-Some.is c.next.ensures.steps in
    let p = pair_at c.args.first.now c.args.second.now (length c.loop-i.yielded) _ t.0 t.1 in
    rw (length_push c.loop-i.yielded _) (differs_other _ _ p c.if-x-y.true c.loop-i.invariant c.put_differ.ensures)

pub loop-i-preserved : goal.loop-i-preserved
loop-i-preserved c =
    let road = YieldsList-from_enumerate (YieldsList-from_zip (YieldsList-from_slice c.args.first.now cc) (YieldsList-from_slice c.args.second.now cc)) cc in
    let t = YieldsList-turn road c.loop-i.yielded _ c.loop-i.yielded_by _ c.next.new.self _ c.in-Some.is c.next.ensures.steps in
    let p = pair_at c.args.first.now c.args.second.now (length c.loop-i.yielded) _ t.0 t.1 in
    rw (length_push c.loop-i.yielded _) (differs_same _ _ p c.if-x-y.false c.loop-i.invariant)

pub returns : goal.returns
returns c =
    let road = YieldsList-from_enumerate (YieldsList-from_zip (YieldsList-from_slice c.args.first.now cc) (YieldsList-from_slice c.args.second.now cc)) cc in
    let t = YieldsList-end road c.loop-i.yielded _ c.loop-i.yielded_by _ c.next.new.self c.in-None.is c.next.ensures.steps in
    let n = turns_are c.args.first.now c.args.second.now t.1 in
    rw (← n) c.loop-i.invariant
