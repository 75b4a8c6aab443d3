-- What is printed of each refusal.
use Rattle.std.specs.Prelude.{ℕ, List, codes}
use Rattle.uno_entities.specs.declared.tag.TagError.{TagError}
use Rattle.uno_entities.specs.declared.tag.TagError.TheVariants as tag

-- why a text is no tag
abbrev pub tag_error_text : TagError → List ℕ
tag_error_text tag.NoMemory = codes "no memory"
tag_error_text tag.BadTag = codes "a tag is 1 to 32 letters and digits"
