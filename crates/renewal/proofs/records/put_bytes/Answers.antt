use Rattle.renewal.proofs.Writing.{put_ends}
use borrow.Author.Rules.{rules}
use Rattle.renewal.proofs.records.put_bytes.Goals as goal

pub returns : goal.returns
returns c = search (rules, put_ends)
