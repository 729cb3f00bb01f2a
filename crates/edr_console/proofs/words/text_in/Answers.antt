use Rattle.clap.specs.Words.{found_of}
use Rattle.edr_console.proofs.WordLemmas.{first_in}
use Rattle.edr_console.proofs.words.text_in.Goals as goal

pub returns : goal.returns
returns c = first_in (found_of c.args.matches.now) c.args.name.now _ c.get_str.ensures
