use Rattle.vr_device.proofs.Images.{chosen-image, some-choice}
use Rattle.vr_device.proofs.laws.choices_are_images.Goals as goal

pub returns-clause-image : goal.returns-clause-image
returns-clause-image c = chosen-image

pub returns-clause-every : goal.returns-clause-every
returns-clause-every c = some-choice
