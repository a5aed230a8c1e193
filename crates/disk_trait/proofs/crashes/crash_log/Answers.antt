use Rattle.disk_trait.proofs.CrashLemmas.{is_left_of}
use Rattle.disk_trait.proofs.crashes.crash_log.Goals as goal

pub returns : goal.returns
returns c =
    is_left_of c.args.log.now c.synced_count.result c.synced_count.ensures.within c.synced_count.ensures.since c.synced_count.ensures.last
    c.args.choice c.new-left.result.items c.split_at.result.0.now c.split_at.result.1.now c.replay.new.into.items c.replay_since.new.into.items c.push.new.self.items
    c.new-left.ensures.items c.split_at.ensures.front c.split_at.ensures.back c.in_ok-replay.ensures c.in_ok-replay_since.ensures c.in_ok-push.ensures.items
