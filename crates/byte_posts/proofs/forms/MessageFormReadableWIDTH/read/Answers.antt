use Rattle.std.proofs.Common.{◌≡◌, Ok, ap, ◌∙◌}
use Rattle.layouts.specs.Layout.{decoded}
use Rattle.layouts.proofs.Forms.{decoded_back}
use Rattle.byte_posts.proofs.forms.MessageFormReadableWIDTH.read.Goals as goal

pub returns : goal.returns
returns c = λ r e.
    let d : c.decode.result ≡ Ok r = c.decode.ensures.value ∙ (ap decoded e ∙ decoded_back r) in
    rw d at c.ok.ensures.value
