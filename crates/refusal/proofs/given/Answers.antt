-- `refusal::given` meets its contract: it tells the two cases of the test apart.
use Rattle.refusal.proofs.given.Goals as goal

pub returns-then-test : goal.returns-then-test
returns-then-test c = rw c.if-test.true

pub returns-else-test : goal.returns-else-test
returns-else-test c = rw c.if-test.false
