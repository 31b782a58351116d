-- What a well-formed image says.
use Rattle.image_frames.specs.Records.{bodies}
use Rattle.trim_spec.specs.Document.{Document}
use Rattle.trim_spec.specs.Parse.{document_of}
use Rattle.trim_encode.specs.declared.well_formed.WellFormed.{WellFormed}

-- its document
abbrev pub said : WellFormed → Document
said i = document_of i.sizes (bodies i.indexed.now)
