use Rattle.binfarce_tables.proofs.elf.read_if.Goals as goal

pub returns-in-Some-2-clause-only : goal.returns-in-Some-2-clause-only
returns-in-Some-2-clause-only g c = λ file known. rw c.in-Some.is (c.in_ok-read_contents.ensures.only file known)
