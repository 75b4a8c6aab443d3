-- The texts of the endpoint that `answer` alone sets up, and how lines name the program's own texts.
use Rattle.std.specs.Prelude.{ℕ, List, [], ◌∷◌, codes}

-- the registry
unfoldable pub own_types : List ℕ
own_types = codes "unoreg 1\nexception demo.Refused com.sun.star.uno.Exception\nmember Code long\nend\ninterface demo.XEcho\nbase com.sun.star.uno.XInterface\nmethod twice long\nparam in a long\nend\ninterface demo.XNode\nbase com.sun.star.uno.XInterface\nmethod relay long\nparam in back demo.XNode\nparam in depth long\nmethod turn com.sun.star.uno.XInterface\nparam in n demo.XNode\nmethod thrice void\nparam in a demo.XNode\nparam in b demo.XNode\nparam in c demo.XNode\nmethod check void\nparam in a long\nraises demo.Refused\nmethod forget void\nmethod shut void\nend\n"

-- and the plan: an object under the name `echo`, which doubles numbers
unfoldable pub own_plan : List ℕ
own_plan = codes "unoplan 1\nbehaviour Echo demo.XEcho\nmethod demo.XEcho twice\nreturn add($a,$a)\nend\nend\nexport \"echo\" Echo\n"

-- the names that lines on own texts give them: those of `answer` alone, and those of `drill`
abbrev pub own_names : List (List ℕ)
own_names = codes "own registry" ∷ codes "own plan" ∷ []

abbrev pub drill_names : List (List ℕ)
drill_names = codes "own registry" ∷ codes "own plan of A" ∷ codes "own plan of B" ∷ []
