-- The frames that a site sends: from its own number, with a view, two ballots, a mask and two lists of commands.
use Rattle.std.specs.Prelude.{List, ◌++◌, ℕ, length}
use Rattle.roster.specs.declared.View.{View}
use Rattle.roster.specs.declared.Ballot.{Ballot}
use Rattle.words.specs.Words.{padded}
use Rattle.frame.specs.declared.Frame.{Frame}
use Rattle.frame.specs.Layout.{frame_capacity}

-- a frame from `own` with two lists of commands
abbrev pub message : ℕ → ℕ → View → Ballot → Ballot → ℕ → List ℕ → List ℕ → Frame
message kind own view ballot provenBallot mask h k =
    record {
      kind = kind;
      sender = own;
      view = view;
      ballot = ballot;
      proven_ballot = provenBallot;
      mask = mask;
      n = length h;
      m = length k;
      words = padded frame_capacity (h ++ k);
    }
