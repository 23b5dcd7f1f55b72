-- A frame as the benchmark passes it to and from C.
use Rattle.std.specs.Prelude.{cond, ℕ}
use Rattle.frame.specs.declared.Frame.{Frame}
use Rattle.frame.specs.Format.{Reading}
use Rattle.frame_bench.specs.declared.Flat.{Flat}

-- a frame, flat, with the number that says whether there is one
abbrev pub flat_with : ℕ → Frame → Flat
flat_with found f =
    record {
      found = found;
      kind = f.kind;
      sender = f.sender;
      n = f.n;
      m = f.m;
      mask = f.mask;
      view = f.view.0;
      ballot = f.ballot.0;
      proven_ballot = f.proven_ballot.0;
      words = f.words;
    }

-- what was read: 1 where there is a frame, 0 where there is none
abbrev pub flat_of : Reading → Flat
flat_of r = flat_with (cond r.found 1 0) r.frame

-- the frame of flat values
abbrev pub framed : Flat → Frame
framed f =
    record {
      kind = f.kind;
      sender = f.sender;
      view = record { 0 = f.view };
      ballot = record { 0 = f.ballot };
      proven_ballot = record { 0 = f.proven_ballot };
      mask = f.mask;
      n = f.n;
      m = f.m;
      words = f.words;
    }
