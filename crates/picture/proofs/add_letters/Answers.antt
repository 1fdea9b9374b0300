use Rattle.std.proofs.Common.{rules}
use Rattle.std.proofs.lemmas.Iterator.{YieldsList-from_slice, YieldsList-from_map}
use Rattle.std.proofs.lemmas.Iterator.Adapters.{items_from_extend}
use Rattle.picture.specs.Letters.{letter_of}
use Rattle.picture.proofs.Lines.{letters_encoded}
use Rattle.picture.proofs.add_letters.Goals as goal

pub returns : goal.returns
returns c =
    let cells = c.args.cells.now in
    rw letters_encoded at (items_from_extend c.extend.result c.extend.ensures.ran (YieldsList-from_map _ letter_of (YieldsList-from_slice cells cc) c.map.ensures.closure (λ x r q k. search rules)))
