use Rattle.parts.proofs.Passing.{end_few, end_room, end_free, end_small, last_few, last_room, end_gone, no_nul}
use Rattle.parts.proofs.passes.Went.feed_end.Goals as goal

pub put-k-requires : goal.put-k-requires
put-k-requires c = (end_few _ _ _ _ _ c.requires _ c.release-freed.ensures, end_room _ _ _ _ _ c.requires _ c.release-freed.ensures)

pub last-last-requires : goal.last-last-requires
last-last-requires c = (end_free _ _ _ _ _ c.requires _ c.release-freed.ensures, end_small _ _ _ _ _ c.requires _ c.release-freed.ensures)

pub put-words-requires : goal.put-words-requires
put-words-requires c =
    let r = c.args.rules.letters in
    let n = no_nul r.start.now r.more.now r.emoji.now in
    (last_few _ _ _ _ _ c.requires _ c.release-freed.ensures c.put-k.ensures _ c.last-last.ensures n, last_room _ _ _ _ _ c.requires _ c.release-freed.ensures c.put-k.ensures _ c.last-last.ensures n)

pub returns : goal.returns
returns c =
    let r = c.args.rules.letters in
    end_gone _ _ _ _ _ c.requires _ c.release-freed.ensures c.put-k.ensures _ c.last-last.ensures (no_nul r.start.now r.more.now r.emoji.now) c.put-words.ensures
