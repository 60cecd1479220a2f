-- What the integers of a lexer mean, and the integers of one. Every value has a meaning.
-- Assumes nothing.
use Rattle.std.specs.Prelude.{ℕ, cond, List, [], ◌∷◌, eqb, length, take, get_or}
use Rattle.feeding.specs.Tracker as T
use Rattle.feeding.specs.Fed as F
use Rattle.feeding.specs.Lexer as L
use Rattle.phases.specs.Coded.{phase_of, tracker_of}
use Rattle.phases.specs.Codec.{flag, flag_number, phase_at, code_of}
use Rattle.parts.specs.declared.state.State as D
use Rattle.parts.specs.declared.state.State.TheVariants as X
use Rattle.parts.specs.declared.state.Token.{Token}
use Rattle.parts.specs.declared.packed.Machine.{Machine}
use Rattle.parts.specs.declared.pend.Pend.{Pend}
use Rattle.parts.specs.declared.Lexer.{Lexer}

-- ---- the machine between two characters
-- a token that has begun, and with a character behind
abbrev pub busy_of : Token → F.State
busy_of t = F.busy (phase_of t.phase) t.eaten t.mark (tracker_of t.tracker)

abbrev pub held_of : Token → ℕ → F.State
held_of t x = F.held (phase_of t.phase) t.eaten t.mark (tracker_of t.tracker) x

abbrev pub state_of : D.State → F.State
state_of X.Idle = F.idle
state_of (X.Busy t) = busy_of t
state_of (X.Held t x) = held_of t x

abbrev pub tracker_in : Machine → T.Tracker
tracker_in x = record { found = x.found; wait = x.wait; prev = x.prev; hex = flag x.hex; shut = flag x.shut }

abbrev pub busy_in : Machine → F.State
busy_in x = F.busy (phase_at x.number x.one x.two) x.eaten x.mark (tracker_in x)

abbrev pub machine_of : Machine → F.State
machine_of x =
    let q = phase_at x.number x.one x.two in
    cond (eqb x.stage 0) F.idle
    (cond (eqb x.stage 1) (busy_in x)
    (F.held q x.eaten x.mark (tracker_in x) x.held))

abbrev pub no_machine : Machine
no_machine = record {
  stage = 0;
  number = 0;
  one = 0;
  two = 0;
  eaten = 0;
  mark = 0;
  found = 0;
  wait = 0;
  prev = 0;
  hex = 0;
  shut = 0;
  held = 0;
}

abbrev pub machine_as : ℕ → Rattle.locality.specs.Phases.Phase → ℕ → ℕ → T.Tracker → ℕ → Machine
machine_as stage q n m o x =
    let c = code_of q in
    record {
      stage = stage;
      number = c.number;
      one = c.one;
      two = c.two;
      eaten = n;
      mark = m;
      found = o.found;
      wait = o.wait;
      prev = o.prev;
      hex = flag_number o.hex;
      shut = flag_number o.shut;
      held = x;
    }

abbrev pub packed_machine : F.State → Machine
packed_machine F.idle = no_machine
packed_machine (F.busy q n m o) = machine_as 1 q n m o 0
packed_machine (F.held q n m o x) = machine_as 2 q n m o x

-- ---- the bytes of an unfinished character, at most three
abbrev pub pend_of : Pend → List ℕ
pend_of p = take p.count (p.one ∷ p.two ∷ p.three ∷ [])

abbrev pub packed_pend : List ℕ → Pend
packed_pend s = record { count = length s; one = get_or s 0 0; two = get_or s 1 0; three = get_or s 2 0 }

-- ---- the lexer
abbrev pub meaning : Lexer → L.Lexer
meaning x = record {
  profile = x.profile;
  over = flag x.over;
  state = machine_of x.machine;
  begun = x.begun;
  pend = pend_of x.pend;
  fed = x.fed;
  from = x.last.from;
  until = x.last.until;
  chunk_at = x.last.place;
  chunk_len = x.last.chunk;
  carry_len = x.last.carry;
  packed = x.last.packed;
  kept = x.last.kept;
}

abbrev pub packed : L.Lexer → Lexer
packed x = record {
  profile = x.profile;
  over = flag_number x.over;
  machine = packed_machine x.state;
  begun = x.begun;
  pend = packed_pend x.pend;
  fed = x.fed;
  last = record {
    from = x.from;
    until = x.until;
    place = x.chunk_at;
    chunk = x.chunk_len;
    carry = x.carry_len;
    packed = x.packed;
    kept = x.kept;
  };
}

-- the same value, ended
abbrev pub ended_lexer : Lexer → Lexer
ended_lexer x = record {
  profile = x.profile;
  over = 1;
  machine = x.machine;
  begun = x.begun;
  pend = x.pend;
  fed = x.fed;
  last = x.last;
}
