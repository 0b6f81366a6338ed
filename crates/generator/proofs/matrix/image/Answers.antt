use Rattle.std.proofs.Common.{◌≡◌, fold, reverse, ◌∙◌, rules}
use Rattle.generator.proofs.Images.{next_bit, image_folded}
use Rattle.generator.proofs.matrix.image.Goals as goal

pub returns : goal.returns
returns c =
    let folded : c.fold.result ≡ fold (next_bit c.args.word) 0 (reverse c.args.matrix) = search rules in
    folded ∙ image_folded c.args.matrix c.args.word (search rules)
