use mathlib.Core.Path.{refl}
use Rattle.parts.proofs.Checking.{is_bad, scanned_mark, scanned_rest, scanned_bad, scanned_last, scanned_short}
use Rattle.parts.proofs.Call.scan_head.Goals as goal
use Rattle.parts.proofs.Call.scan_head.Goals.{in_default-via-in-Short+else-not-self, in_default-via-in_default}

pub returns-in-Whole : goal.returns-in-Whole
returns-in-Whole c = scanned_mark c.in-Whole.ensures _ _ c.is_direction.ensures c.requires.2 c.if-is_direction.true c.len.ensures

pub returns-in-Whole-2 : goal.returns-in-Whole-2
returns-in-Whole-2 c = scanned_rest c.in-Whole.ensures _ _ c.is_direction.ensures c.requires.2 c.if-is_direction.false _ c.scan_rest.ensures

pub returns-in-Short : goal.returns-in-Short
returns-in-Short c = scanned_short _ _ c.in-Short.ensures c.if-not-self.true refl refl refl

pub returns-in_default : goal.returns-in_default
returns-in_default c =
    elim c.in_default.branch [
      | in_default-via-in-Short+else-not-self w ↦ scanned_last _ _ _ _ c.requires.1 c.len.ensures w.in-Short.ensures w.if-not-self.false
      | in_default-via-in_default w ↦ scanned_bad _ _ _ _ c.requires.1 c.len.ensures (is_bad _ _ _ c.head.ensures w.in_default.is)
    ]
