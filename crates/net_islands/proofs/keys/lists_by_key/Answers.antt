use Rattle.std.proofs.Common.{◌≡◌, ◌<◌, length, take, sym, ◌∙◌, arith}
use Rattle.net_islands.proofs.KeyLemmas.{lists_by_key-none, vectors-length, key-below, lists_more}
use Rattle.net_islands.proofs.keys.lists_by_key.Goals as goal

pub loop-key-init : goal.loop-key-init
loop-key-init g c = c.in_ok-lists.ensures ∙ sym (lists_by_key-none c.args.count)

pub index_mut-requires : goal.index_mut-requires
index_mut-requires g c =
    let below : c.loop-key-item.result.0 < c.args.count
    = key-below c.args.count c.args.items.now c.loop-key.key-index c.loop-key-item.result c.requires c.loop-key-test.true c.loop-key-item.is in
    let long : length c.loop-key.lists.items ≡ c.args.count
    = vectors-length c.args.count (take c.loop-key.key-index c.args.items.now) c.loop-key.lists.items c.loop-key.invariant in
    let len : c.loop-key.lists.len ≡ length c.loop-key.lists.items = c.loop-key.lists.ok.0 in
    omega arith

pub loop-key-preserved : goal.loop-key-preserved
loop-key-preserved g c =
    let below : c.loop-key-item.result.0 < c.args.count
    = key-below c.args.count c.args.items.now c.loop-key.key-index c.loop-key-item.result c.requires c.loop-key-test.true c.loop-key-item.is in
    lists_more c.args.count c.args.items.now c.loop-key.key-index c.loop-key-item.result c.loop-key.lists.items c.index_mut.result.now c.push.new.self
    c.loop-key-test.true c.loop-key-item.is below c.loop-key.invariant c.index_mut.ensures.value c.in_ok-push.ensures.items
