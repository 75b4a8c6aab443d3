-- The files of a name, one file after the other.
use Rattle.std.proofs.Common.{◌≡◌, ℕ, ◌+◌, ◌<◌, ◌≤◌, true, false, List, ◌∷◌, length, drop, take, get_or, min, Option, None, Some, refl, sym, ap, ◌∙◌, arith}
use Rattle.std.proofs.lemmas.List.{drop_more, drop_all, take_min}
use Rattle.std.specs.Map.{lookup}
use Rattle.std.specs.Str.{bytes_eq}
use Rattle.std.specs.Prelude.{string_bytes}
use Rattle.uno_io.specs.Files.{read_front}
use Rattle.uno_io.specs.MemFiles.{stored_of}
use Rattle.uno_io.specs.declared.mem_files.MemFile.{MemFile}

module _ (name : List ℕ) (files : List MemFile) (i : ℕ) (whole : Option (List ℕ)) (before : lookup (bytes_eq name) (stored_of (drop i files)) ≡ whole) where
  module _ (file : MemFile) (within : i < length files) (is : file ≡ get_or files i file) where
    first : drop i files ≡ file ∷ drop (i + 1) files
    first = drop_more files i file within ∙ ap (λ f. f ∷ drop (i + 1) files) (sym is)

    -- the next file has the name
    pub has_it : bytes_eq name (string_bytes file.name) ≡ true → Some file.bytes.items ≡ whole
    has_it same = sym (sym before ∙ ap (λ fs. lookup (bytes_eq name) (stored_of fs)) first ∙ here)
      where
        here : lookup (bytes_eq name) (stored_of (file ∷ drop (i + 1) files)) ≡ Some file.bytes.items
        here = rw same refl

    -- it has another one
    pub passes : bytes_eq name (string_bytes file.name) ≡ false → lookup (bytes_eq name) (stored_of (drop (i + 1) files)) ≡ whole
    passes other = sym there ∙ ap (λ fs. lookup (bytes_eq name) (stored_of fs)) (sym first) ∙ before
      where
        there : lookup (bytes_eq name) (stored_of (file ∷ drop (i + 1) files)) ≡ lookup (bytes_eq name) (stored_of (drop (i + 1) files))
        there = rw other refl

  -- no file is left
  pub none_has_it : length files ≤ i → None ≡ whole
  none_has_it past = sym (ap (λ fs. lookup (bytes_eq name) (stored_of fs)) (drop_all i files past)) ∙ before

-- the first bytes of some
pub front_is : (bytes front : List ℕ) (n : ℕ) → n ≡ min (length bytes) 4194305 → front ≡ take n bytes → front ≡ read_front bytes
unfolding read_front
front_is bytes front n is cut =
    let other : n ≡ min 4194305 (length bytes) = omega (arith, is) in
    cut ∙ ap (λ k. take k bytes) other ∙ take_min 4194305 bytes
