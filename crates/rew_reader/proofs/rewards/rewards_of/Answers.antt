use Rattle.std.proofs.Common.{arith}
use Rattle.rew_reader.proofs.FileLemmas.{no_entry}
use Rattle.rew_reader.proofs.RewardSums.{rewards-none, rewards-more, rewards-all}
use Rattle.rew_reader.proofs.rewards.rewards_of.Goals as goal

pub loop-entry-init : goal.loop-entry-init
loop-entry-init c =
    rewards-none c.args.scale c.args.n c.in_ok-rewards.rewards.items (c.in_ok-rewards.ensures.items_if_clones_equal (λ y e. e))

pub index_mut-requires : goal.index_mut-requires
index_mut-requires c =
    let i = c.loop-entry.entry-index in
    let state = c.requires.states i no_entry c.loop-entry-test.true in
    omega (arith, state, c.loop-entry.invariant.long, c.loop-entry.rewards.ok.0)

pub loop-entry-preserved : goal.loop-entry-preserved
loop-entry-preserved c =
    let i = c.loop-entry.entry-index in
    let within = c.loop-entry-test.true in
    rewards-more c.args.scale c.args.n c.args.entries.now i no_entry c.loop-entry.rewards.items c.value_at.result within
    (c.requires.states i no_entry within) c.requires.once c.value_at.ensures.value c.loop-entry.invariant

pub returns : goal.returns
returns c =
    rewards-all c.args.scale c.args.n c.loop-entry.entry-index c.args.entries.now c.loop-entry.rewards.items
    (omega arith) c.loop-entry.invariant
