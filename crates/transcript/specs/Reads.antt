-- What a program's loop over reads does to its stream, whatever was read: a read says how many bytes came, not which.
use Rattle.std.specs.Prelude.{ℕ, ◌≡◌, List, [], ◌++◌, take}
use Rattle.std.proofs.Common.{sym, ap, ◌∙◌}
use Rattle.transcript.specs.Stream.{Progress, after}
use Rattle.transcript.specs.StreamLaws.{after_append}

-- what a read put into the input buffer that answered `got`: so many bytes, at its front
abbrev pub received : ℕ → List ℕ → List ℕ
received got input = take got input

-- q is where some bytes lead from p: the stream goes on, and nothing of it is forgotten
pub record Continues (p q : Progress) : Type 0 where
  pub bytes : List ℕ
  pub fed : q ≡ after p bytes

pub continues_same : {p q : Progress} → q ≡ p → Continues p q
unfolding after
continues_same e = record { bytes = []; fed = e }

pub continues_more : (p q r : Progress) (bytes : List ℕ) → Continues p q → r ≡ after q bytes → Continues p r
continues_more p q r bytes a e =
    record {
      bytes = a.bytes ++ bytes;
      fed = e ∙ ap (λ (x : Progress). after x bytes) a.fed ∙ sym (after_append p a.bytes bytes);
    }
