use Rattle.std.proofs.Common.{◌≡◌, sym, subst}
use Rattle.std.specs.Prelude.{Result, Ok, Err, IfOk, IfErr}
use Rattle.step_core.specs.CoreLists.{CoreLists}
use Rattle.step_core.specs.Events.{event_gives}
use Rattle.step_core.specs.Good.{Good}
use Rattle.step_core.specs.PlanLists.{PlanLists}
use Rattle.step_core.specs.SoundPlan.{IsSoundPlan}
use Rattle.step_core.specs.declared.event.Event.{Event}
use Rattle.step_core.specs.declared.event.Event.TheVariants.{LoadLower, LoadUpper, Raise, Cut, SeeSeal, Seal, Split, Meet, Draw, Stop, SeeStop}
use Rattle.step_core.proofs.CoreLemmas.{good_event}
use Rattle.step_core.proofs.machine.Core.apply.Goals as goal

-- the machine that an event gives is good
given : (plan : PlanLists) (core now : CoreLists) (event : Event) → IsSoundPlan plan → Good plan core → now ≡ event_gives plan core event
    → Good plan now
given plan core now event sound good is = subst (Good plan) (sym is) (good_event plan core event sound good)

-- so it is where a refused event changes nothing
given_or_kept : {A E : Type 0} (plan : PlanLists) (core now : CoreLists) (event : Event) (r : Result A E) → IsSoundPlan plan
    → Good plan core
    → IfOk r (λ _. now ≡ event_gives plan core event) → IfErr r (λ _. now ≡ core) → Good plan now
given_or_kept plan core now event (Ok a) sound good ok err = given plan core now event sound good ok
given_or_kept plan core now event (Err e) sound good ok err = subst (Good plan) (sym err) good

pub returns-in-LoadLower-clause-good : goal.returns-in-LoadLower-clause-good
returns-in-LoadLower-clause-good c =
    given c.args.plan.now c.args.self.now _ (LoadLower c.in-LoadLower.pass c.in-LoadLower.k c.in-LoadLower.s) c.requires.sound
    c.requires.good c.load_lower.ensures

pub returns-in-LoadUpper-clause-good : goal.returns-in-LoadUpper-clause-good
returns-in-LoadUpper-clause-good c =
    given c.args.plan.now c.args.self.now _ (LoadUpper c.in-LoadUpper.pass c.in-LoadUpper.k c.in-LoadUpper.s) c.requires.sound
    c.requires.good c.load_upper.ensures

pub returns-in-Raise-clause-good : goal.returns-in-Raise-clause-good
returns-in-Raise-clause-good c =
    given c.args.plan.now c.args.self.now _ (Raise c.in-Raise.pass c.in-Raise.k c.in-Raise.s) c.requires.sound c.requires.good
    c.raise.ensures

pub returns-in-Cut-clause-good : goal.returns-in-Cut-clause-good
returns-in-Cut-clause-good c =
    given c.args.plan.now c.args.self.now _ (Cut c.in-Cut.pass c.in-Cut.k c.in-Cut.s) c.requires.sound c.requires.good c.cut.ensures

pub returns-in-SeeSeal-clause-good : goal.returns-in-SeeSeal-clause-good
returns-in-SeeSeal-clause-good c =
    given c.args.plan.now c.args.self.now _ (SeeSeal c.in-SeeSeal.pass c.in-SeeSeal.k c.in-SeeSeal.b) c.requires.sound c.requires.good
    c.see_seal.ensures

pub returns-in-Seal-clause-good : goal.returns-in-Seal-clause-good
returns-in-Seal-clause-good c =
    given c.args.plan.now c.args.self.now _ (Seal c.in-Seal.pass c.in-Seal.k c.in-Seal.b) c.requires.sound c.requires.good
    c.seal_block.ensures

pub returns-in-Split-clause-good : goal.returns-in-Split-clause-good
returns-in-Split-clause-good c =
    given_or_kept c.args.plan.now c.args.self.now c.split_pass.new.self (Split c.in-Split.pass) c.split_pass.result c.requires.sound
    c.requires.good c.split_pass.ensures.given c.split_pass.ensures.kept

pub returns-in-Meet-clause-good : goal.returns-in-Meet-clause-good
returns-in-Meet-clause-good c =
    given_or_kept c.args.plan.now c.args.self.now c.meet.new.self (Meet c.in-Meet.kept c.in-Meet.other) c.meet.result c.requires.sound
    c.requires.good c.meet.ensures.given c.meet.ensures.kept

pub returns-in-Draw-clause-good : goal.returns-in-Draw-clause-good
returns-in-Draw-clause-good c =
    given_or_kept c.args.plan.now c.args.self.now c.draw.new.self (Draw c.in-Draw.pass) c.draw.result c.requires.sound
    c.requires.good c.draw.ensures.given c.draw.ensures.kept

pub returns-in-Stop-clause-good : goal.returns-in-Stop-clause-good
returns-in-Stop-clause-good c =
    given c.args.plan.now c.args.self.now _ (Stop c.in-Stop.pass) c.requires.sound c.requires.good c.stop.ensures

pub returns-in-SeeStop-clause-good : goal.returns-in-SeeStop-clause-good
returns-in-SeeStop-clause-good c =
    given c.args.plan.now c.args.self.now _ (SeeStop c.in-SeeStop.pass) c.requires.sound c.requires.good c.see_stop.ensures
