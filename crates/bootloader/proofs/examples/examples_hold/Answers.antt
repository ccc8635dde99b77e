use Rattle.bootloader.proofs.Worked.{session_examples, frame_examples, memory_examples, code_examples}
use Rattle.bootloader.proofs.examples.examples_hold.Goals as goal

pub returns-clause-session : goal.returns-clause-session
returns-clause-session c = session_examples

pub returns-clause-frames : goal.returns-clause-frames
returns-clause-frames c = frame_examples

pub returns-clause-memories : goal.returns-clause-memories
returns-clause-memories c = memory_examples

pub returns-clause-codes : goal.returns-clause-codes
returns-clause-codes c = code_examples
