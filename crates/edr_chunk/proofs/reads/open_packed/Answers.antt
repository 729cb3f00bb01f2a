use Rattle.edr_chunk.proofs.reads.open_packed.Goals as goal

pub returns-clause-read : goal.returns-clause-read
returns-clause-read c = c.in_ok-append.ensures.ok
