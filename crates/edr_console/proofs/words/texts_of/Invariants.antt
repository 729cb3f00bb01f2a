use Rattle.std.proofs.Common.{◌≡◌, map, true, take}
use Rattle.std.specs.List.{list_all}
use Rattle.std.specs.Str.{is_utf8}
use Rattle.edr_console.specs.Words.{all_words}
use Rattle.edr_console.proofs.words.texts_of.Given as goal

abbrev pub invariant-loop-word : goal.invariant-loop-word
invariant-loop-word l =
    (list_all is_utf8 (take l.word-index l.words) ≡ true) × (map (λ text. text.now) l.texts.items ≡ all_words (take l.word-index l.words))
